-- Types, origins, the rules of linear use and what is taken depend on the free names alone.
use Rattle.std.proofs.Common.{◌≡◌, ◌≢◌, ℕ, ◌==◌, Bool, true, false, ◌&&◌, ◌||◌, if◌then◌else◌, [], ◌∷◌, Option, Some, None, option_map, refl, ap, sym, subst, ◌∙◌, inl, inr, ◌⊎◌, eqb-true}
use Rattle.weld_tree.specs.declared.binder.Binder.{Binder}
use Rattle.weld_tree.specs.TypeTree.{TypeTree, TypeTrees, no_types, more_types}
use Rattle.weld_tree.specs.ExprTree.{ExprTree, leaf, one, two, three, many, let_in, loop, iterate, ExprTrees, no_exprs, more_exprs, LegTree, whole, strided, LegTrees, no_legs, more_legs, Leaf, int, truth, chars, name, fresh, One, neg, not, cast, len, field, finish, started, Three, if_else, select, slice}
use Rattle.weld_meaning.specs.Environment.{Named, look_for}
use Rattle.weld_meaning.specs.Typing.{Types, place_type, LeafHas, HasType, HaveTypes, LegHas, LegsHave}
use Rattle.weld_meaning.specs.Origin.{Path, Origin, value, field_origin, named_below, known_origin, origin_of_name, leaf_origin, one_origin, two_origin, three_origin, many_origin, origin, origins, own_paths, from_within, outside, in_body, in_turn, by_name}
use Rattle.weld_meaning.specs.Linear.{IsSeen, IsNotMade, LeafKeeps, OneKeeps, ThreeKeeps, Keeps, AllKeep, LegKeeps, LegsKeep}
use Rattle.weld_meaning.specs.Available.{is_below, is_builder_path, chain_of_one, chain_of, chain_takes, takes, some_take, leg_takes, legs_take, Taken, Apart, TakesAll, without, OneSplits, TwoSplits, ThreeSplits, Splits, AllSplit, LegSplits, LegsSplit}
use Rattle.weld_meaning.specs.Names.{LeafNames, IsFree, AreFree, LegIsFree, LegsAreFree, AgreeOn}
use Rattle.weld_meaning.proofs.Before.{look_for-map}
use Rattle.weld_meaning.proofs.Names.{agree_bind, agree_less}

-- ---- environments

-- in the body of a loop
agree_body : {A : Type 0} (ls : LegTrees) (e f : ExprTree) (b n x : Binder) (t i r : A) (g h : Named A) → AgreeOn (λ s. LegsAreFree ls s ⊎ (IsFree e s ⊎ (IsFree f s × (s ≢ x.sym.0) × (s ≢ n.sym.0) × (s ≢ b.sym.0)))) g h → AgreeOn (IsFree f) ((x.sym.0, r) ∷ (n.sym.0, i) ∷ (b.sym.0, t) ∷ g) ((x.sym.0, r) ∷ (n.sym.0, i) ∷ (b.sym.0, t) ∷ h)
agree_body ls e f b n x t i r g h a =
    agree_bind (λ s. IsFree f s × (s ≢ x.sym.0)) (IsFree f) x.sym.0 r _ _ (λ s y ne. (y, ne))
    (agree_bind (λ s. IsFree f s × (s ≢ x.sym.0) × (s ≢ n.sym.0)) (λ s. IsFree f s × (s ≢ x.sym.0)) n.sym.0 i _ _ (λ s y ne. (y.0, y.1, ne))
    (agree_bind _ (λ s. IsFree f s × (s ≢ x.sym.0) × (s ≢ n.sym.0)) b.sym.0 t g h (λ s y ne. inr (inr (y.0, y.1, y.2, ne))) a))

agree_outside : (free : ℕ → Type 0) (g h : Named Origin) → AgreeOn free g h → AgreeOn free (outside g) (outside h)
agree_outside free g h a = record { agree = λ s f. look_for-map from_within s g ∙ ap (option_map from_within) (a.agree s f) ∙ sym (look_for-map from_within s h) }

look_for-by_name : (x : ℕ) (g : Named Origin) → look_for x (by_name g) ≡ option_map (named_below x []) (look_for x g)
look_for-by_name x [] = refl
look_for-by_name x (e ∷ es) = by (x == e.0) refl (look_for-by_name x es)
  where
    by : (c : Bool) → (x == e.0) ≡ c → look_for x (by_name es) ≡ option_map (named_below x []) (look_for x es) → (if c then Some (named_below e.0 [] e.1) else look_for x (by_name es)) ≡ option_map (named_below x []) (if c then Some e.1 else look_for x es)
    by true p k = ap (λ s. Some (named_below s [] e.1)) (sym (eqb-true x e.0 p))
    by false p k = k

agree_by_name : (free : ℕ → Type 0) (g h : Named Origin) → AgreeOn free g h → AgreeOn free (by_name g) (by_name h)
agree_by_name free g h a = record { agree = λ s f. look_for-by_name s g ∙ ap (option_map (named_below s [])) (a.agree s f) ∙ sym (look_for-by_name s h) }

-- ---- types

leaf_type_free : (l : Leaf) (g h : Types) (t : TypeTree) → AgreeOn (LeafNames l) g h → LeafHas l g t → LeafHas l h t
leaf_type_free (int k x) g h t a p = p
leaf_type_free (truth b) g h t a p = p
leaf_type_free (chars bs) g h t a p = p
leaf_type_free (name s) g h t a p = sym (a.agree s refl) ∙ p
leaf_type_free (fresh b) g h t a p = p

mutual
  pub type_free : (e : ExprTree) (g h : Types) (t : TypeTree) → AgreeOn (IsFree e) g h → HasType e g t → HasType e h t
  type_free (leaf a l) g h t r p = leaf_type_free l g h t (record { agree = r.agree }) p
  type_free (one a o e) g h t r p = (p.0, type_free e g h p.0 (record { agree = r.agree }) p.1, p.2)
  type_free (two a o e f) g h t r p =
      (p.0, p.1, type_free e g h p.0 (agree_less _ (IsFree e) g h (λ s x. inl x) r) p.2, type_free f g h p.1 (agree_less _ (IsFree f) g h (λ s x. inr x) r) p.3, p.4)
  type_free (three a o e f k) g h t r p = (
    p.0,
    p.1,
    p.2,
    type_free e g h p.0 (agree_less _ (IsFree e) g h (λ s x. inl x) r) p.3,
    type_free f g h p.1 (agree_less _ (IsFree f) g h (λ s x. inr (inl x)) r) p.4,
    type_free k g h p.2 (agree_less _ (IsFree k) g h (λ s x. inr (inr x)) r) p.5,
    p.6,
  )
  type_free (many a o es) g h t r p = (p.0, types_free es g h p.0 (record { agree = r.agree }) p.1, p.2)
  type_free (let_in a b e f) g h t r p = (
    p.0,
    type_free e g h p.0 (agree_less _ (IsFree e) g h (λ s x. inl x) r) p.1,
    p.2,
    type_free f _ _ t (agree_bind _ (IsFree f) b.sym.0 p.0 g h (λ s x ne. inr (x, ne)) r) p.3,
  )
  type_free (loop a ls e b n x f) g h t r p = (
    p.0,
    p.1,
    leg_types_free ls g h p.0 (agree_less _ (LegsAreFree ls) g h (λ s y. inl y) r) p.2,
    p.3,
    type_free e g h t (agree_less _ (IsFree e) g h (λ s y. inr (inl y)) r) p.4,
    p.5,
    p.6,
    p.7,
    p.8,
    type_free f _ _ t (agree_body ls e f b n x t place_type p.1 g h (record { agree = r.agree })) p.9,
  )
  type_free (iterate a e b f) g h t r p =
      (type_free e g h t (agree_less _ (IsFree e) g h (λ s x. inl x) r) p.0, p.1, p.2, type_free f _ _ _ (agree_bind _ (IsFree f) b.sym.0 t g h (λ s x ne. inr (x, ne)) r) p.3)

  types_free : (es : ExprTrees) (g h : Types) (us : TypeTrees) → AgreeOn (AreFree es) g h → HaveTypes es g us → HaveTypes es h us
  types_free no_exprs g h no_types r p = tt
  types_free no_exprs g h (more_types u us) r p = p
  types_free (more_exprs e es) g h no_types r p = p
  types_free (more_exprs e es) g h (more_types u us) r p =
      (type_free e g h u (agree_less _ (IsFree e) g h (λ s x. inl x) r) p.0, types_free es g h us (agree_less _ (AreFree es) g h (λ s x. inr x) r) p.1)

  leg_type_free : (l : LegTree) (g h : Types) (u : TypeTree) → AgreeOn (LegIsFree l) g h → LegHas l g u → LegHas l h u
  leg_type_free (whole e) g h u r p = type_free e g h _ (record { agree = r.agree }) p
  leg_type_free (strided e f k i) g h u r p = (
    type_free e g h _ (agree_less _ (IsFree e) g h (λ s x. inl x) r) p.0,
    type_free f g h _ (agree_less _ (IsFree f) g h (λ s x. inr (inl x)) r) p.1,
    type_free k g h _ (agree_less _ (IsFree k) g h (λ s x. inr (inr (inl x))) r) p.2,
    type_free i g h _ (agree_less _ (IsFree i) g h (λ s x. inr (inr (inr x))) r) p.3,
  )

  leg_types_free : (ls : LegTrees) (g h : Types) (us : TypeTrees) → AgreeOn (LegsAreFree ls) g h → LegsHave ls g us → LegsHave ls h us
  leg_types_free no_legs g h no_types r p = tt
  leg_types_free no_legs g h (more_types u us) r p = p
  leg_types_free (more_legs l ls) g h no_types r p = p
  leg_types_free (more_legs l ls) g h (more_types u us) r p =
      (leg_type_free l g h u (agree_less _ (LegIsFree l) g h (λ s x. inl x) r) p.0, leg_types_free ls g h us (agree_less _ (LegsAreFree ls) g h (λ s x. inr x) r) p.1)

-- ---- origins

leaf_origin_free : (l : Leaf) (g h : Named Origin) → AgreeOn (LeafNames l) g h → leaf_origin l g ≡ leaf_origin l h
leaf_origin_free (int k x) g h a = refl
leaf_origin_free (truth b) g h a = refl
leaf_origin_free (chars bs) g h a = refl
leaf_origin_free (name s) g h a = ap known_origin (a.agree s refl)
leaf_origin_free (fresh b) g h a = refl

mutual
  pub origin_free : (e : ExprTree) (g h : Named Origin) → AgreeOn (IsFree e) g h → origin e g ≡ origin e h
  origin_free (leaf a l) g h r = leaf_origin_free l g h (record { agree = r.agree })
  origin_free (one a o e) g h r = ap (one_origin o) (origin_free e g h (record { agree = r.agree }))
  origin_free (two a o e f) g h r = ap (two_origin o) (origin_free e g h (agree_less _ (IsFree e) g h (λ s x. inl x) r))
  origin_free (three a o c e f) g h r = ap (three_origin o) (origin_free e g h (agree_less _ (IsFree e) g h (λ s x. inr (inl x)) r))
  origin_free (many a o es) g h r = ap (many_origin o) (origins_free es g h (record { agree = r.agree }))
  origin_free (let_in a b e f) g h r =
      ap (λ o. origin f ((b.sym.0, o) ∷ g)) (origin_free e g h (agree_less _ (IsFree e) g h (λ s x. inl x) r))
      ∙ origin_free f _ _ (agree_bind _ (IsFree f) b.sym.0 (origin e h) g h (λ s x ne. inr (x, ne)) r)
  origin_free (loop a ls e b n x f) g h r = origin_free e g h (agree_less _ (IsFree e) g h (λ s y. inr (inl y)) r)
  origin_free (iterate a e b f) g h r = refl

  origins_free : (es : ExprTrees) (g h : Named Origin) → AgreeOn (AreFree es) g h → origins es g ≡ origins es h
  origins_free no_exprs g h r = refl
  origins_free (more_exprs e es) g h r =
      let p = origin_free e g h (agree_less _ (IsFree e) g h (λ s x. inl x) r) in
      let q = origins_free es g h (agree_less _ (AreFree es) g h (λ s x. inr x) r) in
      λ i. Rattle.weld_meaning.specs.Origin.more_origins (p i) (q i)

-- ---- the rules on origins

leaf_keeps_free : (l : Leaf) (g h : Named Origin) → AgreeOn (LeafNames l) g h → LeafKeeps l g → LeafKeeps l h
leaf_keeps_free (int k x) g h a p = p
leaf_keeps_free (truth b) g h a p = p
leaf_keeps_free (chars bs) g h a p = p
leaf_keeps_free (name s) g h a p = subst (λ m. IsSeen (known_origin m)) (a.agree s refl) p
leaf_keeps_free (fresh b) g h a p = p

three_keeps_free : (k : Three) (e f : ExprTree) (g h : Named Origin) → AgreeOn (IsFree e) g h → AgreeOn (IsFree f) g h → ThreeKeeps k e f g → ThreeKeeps k e f h
three_keeps_free if_else e f g h r u p =
    let x = origin_free e (by_name g) (by_name h) (agree_by_name (IsFree e) g h r) in
    let y = origin_free f (by_name g) (by_name h) (agree_by_name (IsFree f) g h u) in
    record { same = sym x ∙ p.same ∙ y; not_made = subst IsNotMade x p.not_made }
three_keeps_free select e f g h r u p = p
three_keeps_free slice e f g h r u p = p

mutual
  pub keeps_free : (e : ExprTree) (g h : Named Origin) → AgreeOn (IsFree e) g h → Keeps e g → Keeps e h
  keeps_free (leaf a l) g h r p = leaf_keeps_free l g h (record { agree = r.agree }) p
  keeps_free (one a o e) g h r p =
      let u : AgreeOn (IsFree e) g h = record { agree = r.agree } in (keeps_free e g h u p.0, subst (OneKeeps o) (origin_free e g h u) p.1)
  keeps_free (two a o e f) g h r p =
      (keeps_free e g h (agree_less _ (IsFree e) g h (λ s x. inl x) r) p.0, keeps_free f g h (agree_less _ (IsFree f) g h (λ s x. inr x) r) p.1)
  keeps_free (three a o c e f) g h r p =
      let u = agree_less _ (IsFree e) g h (λ s x. inr (inl x)) r in let w = agree_less _ (IsFree f) g h (λ s x. inr (inr x)) r in
      (keeps_free c g h (agree_less _ (IsFree c) g h (λ s x. inl x) r) p.0, keeps_free e g h u p.1, keeps_free f g h w p.2, three_keeps_free o e f g h u w p.3)
  keeps_free (many a o es) g h r p = all_keep_free es g h (record { agree = r.agree }) p
  keeps_free (let_in a b e f) g h r p =
      let u = agree_less _ (IsFree e) g h (λ s x. inl x) r in (
        keeps_free e g h u p.0,
        subst (λ o. Keeps f ((b.sym.0, o) ∷ h)) (origin_free e g h u)
            (keeps_free f _ _ (agree_bind _ (IsFree f) b.sym.0 (origin e g) g h (λ s x ne. inr (x, ne)) r) p.1),
      )
  keeps_free (loop a ls e b n x f) g h r p =
      let u = agree_less _ (IsFree e) g h (λ s y. inr (inl y)) r in
      let same = origin_free e g h u in
      let inner : AgreeOn (IsFree f) (in_body b n x (origin e g) g) (in_body b n x (origin e g) h) =
      agree_body ls e f b n x (own_paths (origin e g)) value value (outside g) (outside h) (agree_outside _ g h (record { agree = r.agree })) in (
        legs_keep_free ls g h (agree_less _ (LegsAreFree ls) g h (λ s y. inl y) r) p.0,
        keeps_free e g h u p.1,
        subst (λ o. Keeps f (in_body b n x o h)) same (keeps_free f _ _ inner p.2),
        subst (λ o. origin f (in_body b n x o h) ≡ own_paths o) same (sym (origin_free f _ _ inner) ∙ p.3),
      )
  keeps_free (iterate a e b f) g h r p = (
    keeps_free e g h (agree_less _ (IsFree e) g h (λ s x. inl x) r) p.0,
    keeps_free f _ _ (agree_bind _ (IsFree f) b.sym.0 value (outside g) (outside h) (λ s x ne. inr (x, ne)) (agree_outside _ g h (record { agree = r.agree }))) p.1,
  )

  all_keep_free : (es : ExprTrees) (g h : Named Origin) → AgreeOn (AreFree es) g h → AllKeep es g → AllKeep es h
  all_keep_free no_exprs g h r p = tt
  all_keep_free (more_exprs e es) g h r p =
      (keeps_free e g h (agree_less _ (IsFree e) g h (λ s x. inl x) r) p.0, all_keep_free es g h (agree_less _ (AreFree es) g h (λ s x. inr x) r) p.1)

  leg_keeps_free : (l : LegTree) (g h : Named Origin) → AgreeOn (LegIsFree l) g h → LegKeeps l g → LegKeeps l h
  leg_keeps_free (whole e) g h r p = keeps_free e g h (record { agree = r.agree }) p
  leg_keeps_free (strided e f k i) g h r p = (
    keeps_free e g h (agree_less _ (IsFree e) g h (λ s x. inl x) r) p.0,
    keeps_free f g h (agree_less _ (IsFree f) g h (λ s x. inr (inl x)) r) p.1,
    keeps_free k g h (agree_less _ (IsFree k) g h (λ s x. inr (inr (inl x))) r) p.2,
    keeps_free i g h (agree_less _ (IsFree i) g h (λ s x. inr (inr (inr x))) r) p.3,
  )

  legs_keep_free : (ls : LegTrees) (g h : Named Origin) → AgreeOn (LegsAreFree ls) g h → LegsKeep ls g → LegsKeep ls h
  legs_keep_free no_legs g h r p = tt
  legs_keep_free (more_legs l ls) g h r p =
      (leg_keeps_free l g h (agree_less _ (LegIsFree l) g h (λ s x. inl x) r) p.0, legs_keep_free ls g h (agree_less _ (LegsAreFree ls) g h (λ s x. inr x) r) p.1)

-- ---- what is taken

chain_takes_free : (c : ℕ × Path) (g h : Named Origin) (s : ℕ) (q : Path) (x y : Bool) → look_for c.0 g ≡ look_for c.0 h → chain_takes (Some c) g s q x ≡ chain_takes (Some c) h s q y
chain_takes_free c g h s q x y e = by (c.0 == s) refl
  where
    by : (b : Bool) → (c.0 == s) ≡ b → (b && (is_below c.1 q && is_builder_path (origin_of_name s g) q)) ≡ (b && (is_below c.1 q && is_builder_path (origin_of_name s h) q))
    by true p =
        let same : look_for s g ≡ look_for s h = subst (λ t. look_for t g ≡ look_for t h) (eqb-true c.0 s p) e in
        ap (λ m. is_below c.1 q && is_builder_path (known_origin m) q) same
    by false p = refl

some_name : (d : ℕ × Path) (p : Path) (c : ℕ × Path) → ◌≡◌ {A = Option (ℕ × Path)} (Some (d.0, p)) (Some c) → d.0 ≡ c.0
some_name d p c e = ap (first d.0) e
  where
    first : ℕ → Option (ℕ × Path) → ℕ
    first s (Some x) = x.0
    first s None = s

chain_is_free : (e : ExprTree) (c : ℕ × Path) → chain_of e ≡ Some c → IsFree e c.0
chain_is_free (leaf a (int k x)) c p = let no : ⊥ = cc in absurd no
chain_is_free (leaf a (truth b)) c p = let no : ⊥ = cc in absurd no
chain_is_free (leaf a (chars bs)) c p = let no : ⊥ = cc in absurd no
chain_is_free (leaf a (name s)) c p = sym (some_name (s, []) [] c p)
chain_is_free (leaf a (fresh b)) c p = let no : ⊥ = cc in absurd no
chain_is_free (one a neg e) c p = let no : ⊥ = cc in absurd no
chain_is_free (one a not e) c p = let no : ⊥ = cc in absurd no
chain_is_free (one a (cast k) e) c p = let no : ⊥ = cc in absurd no
chain_is_free (one a len e) c p = let no : ⊥ = cc in absurd no
chain_is_free (one a (field n) e) c p = by (chain_of e) refl (chain_is_free e) p
  where
    by : (m : Option (ℕ × Path)) → chain_of e ≡ m → ((d : ℕ × Path) → chain_of e ≡ Some d → IsFree e d.0) → option_map (λ (d : ℕ × Path). (d.0, n ∷ d.1)) m ≡ Some c → IsFree e c.0
    by (Some d) q k r = subst (IsFree e) (some_name d (n ∷ d.1) c r) (k d q)
    by None q k r = let no : ⊥ = cc in absurd no
chain_is_free (one a finish e) c p = let no : ⊥ = cc in absurd no
chain_is_free (one a (started b) e) c p = let no : ⊥ = cc in absurd no
chain_is_free (two a o e f) c p = let no : ⊥ = cc in absurd no
chain_is_free (three a o d e f) c p = let no : ⊥ = cc in absurd no
chain_is_free (many a o es) c p = let no : ⊥ = cc in absurd no
chain_is_free (let_in a b e f) c p = let no : ⊥ = cc in absurd no
chain_is_free (loop a ls e b n x f) c p = let no : ⊥ = cc in absurd no
chain_is_free (iterate a e b f) c p = let no : ⊥ = cc in absurd no

-- with the value's own origin in each
inner_free : (b : Binder) (e f : ExprTree) (g h : Named Origin) → AgreeOn (IsFree e) g h → AgreeOn (IsFree f) ((b.sym.0, origin e g) ∷ g) ((b.sym.0, origin e g) ∷ h) → ((s : ℕ) (q : Path) → takes f ((b.sym.0, origin e g) ∷ g) s q ≡ takes f ((b.sym.0, origin e g) ∷ h) s q) → (s : ℕ) (q : Path) → takes f ((b.sym.0, origin e g) ∷ g) s q ≡ takes f ((b.sym.0, origin e h) ∷ h) s q
inner_free b e f g h v a k s q = k s q ∙ ap (λ o. takes f ((b.sym.0, o) ∷ h) s q) (origin_free e g h v)

mutual
  takes_free : (e : ExprTree) (g h : Named Origin) → AgreeOn (IsFree e) g h → (s : ℕ) (q : Path) → takes e g s q ≡ takes e h s q
  takes_free (leaf a (int k x)) g h r s q = refl
  takes_free (leaf a (truth b)) g h r s q = refl
  takes_free (leaf a (chars bs)) g h r s q = refl
  takes_free (leaf a (name x)) g h r s q = chain_takes_free (x, []) g h s q false false (r.agree x refl)
  takes_free (leaf a (fresh b)) g h r s q = refl
  takes_free (one a neg e) g h r s q = takes_free e g h (record { agree = r.agree }) s q
  takes_free (one a not e) g h r s q = takes_free e g h (record { agree = r.agree }) s q
  takes_free (one a (cast k) e) g h r s q = takes_free e g h (record { agree = r.agree }) s q
  takes_free (one a len e) g h r s q = takes_free e g h (record { agree = r.agree }) s q
  takes_free (one a (field n) e) g h r s q = by (chain_of e) refl (takes_free e g h (record { agree = r.agree }) s q)
    where
      by : (m : Option (ℕ × Path)) → chain_of e ≡ m → takes e g s q ≡ takes e h s q → chain_takes (chain_of_one (field n) m) g s q (takes e g s q) ≡ chain_takes (chain_of_one (field n) m) h s q (takes e h s q)
      by (Some c) p k = chain_takes_free (c.0, n ∷ c.1) g h s q (takes e g s q) (takes e h s q) (r.agree c.0 (chain_is_free e c p))
      by None p k = k
  takes_free (one a finish e) g h r s q = takes_free e g h (record { agree = r.agree }) s q
  takes_free (one a (started b) e) g h r s q = takes_free e g h (record { agree = r.agree }) s q
  takes_free (two a o e f) g h r s q =
      let p = takes_free e g h (agree_less _ (IsFree e) g h (λ t x. inl x) r) s q in
      let u = takes_free f g h (agree_less _ (IsFree f) g h (λ t x. inr x) r) s q in λ i. p i || u i
  takes_free (three a o c e f) g h r s q =
      let p = takes_free c g h (agree_less _ (IsFree c) g h (λ t x. inl x) r) s q in
      let u = takes_free e g h (agree_less _ (IsFree e) g h (λ t x. inr (inl x)) r) s q in
      let w = takes_free f g h (agree_less _ (IsFree f) g h (λ t x. inr (inr x)) r) s q in λ i. p i || (u i || w i)
  takes_free (many a o es) g h r s q = some_take_free es g h (record { agree = r.agree }) s q
  takes_free (let_in a b e f) g h r s q =
      let v = agree_less _ (IsFree e) g h (λ t x. inl x) r in
      let p = takes_free e g h v s q in
      let u = inner_free b e f g h v (agree_bind _ (IsFree f) b.sym.0 (origin e g) g h (λ t x ne. inr (x, ne)) r) (takes_free f _ _ (agree_bind _ (IsFree f) b.sym.0 (origin e g) g h (λ t x ne. inr (x, ne)) r)) s q in
      λ i. p i || (if b.sym.0 == s then false else u i)
  takes_free (loop a ls e b n x f) g h r s q =
      let p = legs_take_free ls g h (agree_less _ (LegsAreFree ls) g h (λ t y. inl y) r) s q in
      let u = takes_free e g h (agree_less _ (IsFree e) g h (λ t y. inr (inl y)) r) s q in λ i. p i || u i
  takes_free (iterate a e b f) g h r s q = takes_free e g h (agree_less _ (IsFree e) g h (λ t x. inl x) r) s q

  some_take_free : (es : ExprTrees) (g h : Named Origin) → AgreeOn (AreFree es) g h → (s : ℕ) (q : Path) → some_take es g s q ≡ some_take es h s q
  some_take_free no_exprs g h r s q = refl
  some_take_free (more_exprs e es) g h r s q =
      let p = takes_free e g h (agree_less _ (IsFree e) g h (λ t x. inl x) r) s q in
      let u = some_take_free es g h (agree_less _ (AreFree es) g h (λ t x. inr x) r) s q in λ i. p i || u i

  leg_takes_free : (l : LegTree) (g h : Named Origin) → AgreeOn (LegIsFree l) g h → (s : ℕ) (q : Path) → leg_takes l g s q ≡ leg_takes l h s q
  leg_takes_free (whole e) g h r s q = takes_free e g h (record { agree = r.agree }) s q
  leg_takes_free (strided e f k i) g h r s q =
      let p = takes_free e g h (agree_less _ (IsFree e) g h (λ t x. inl x) r) s q in
      let u = takes_free f g h (agree_less _ (IsFree f) g h (λ t x. inr (inl x)) r) s q in
      let v = takes_free k g h (agree_less _ (IsFree k) g h (λ t x. inr (inr (inl x))) r) s q in
      let w = takes_free i g h (agree_less _ (IsFree i) g h (λ t x. inr (inr (inr x))) r) s q in λ j. p j || (u j || (v j || w j))

  legs_take_free : (ls : LegTrees) (g h : Named Origin) → AgreeOn (LegsAreFree ls) g h → (s : ℕ) (q : Path) → legs_take ls g s q ≡ legs_take ls h s q
  legs_take_free no_legs g h r s q = refl
  legs_take_free (more_legs l ls) g h r s q =
      let p = leg_takes_free l g h (agree_less _ (LegIsFree l) g h (λ t x. inl x) r) s q in
      let u = legs_take_free ls g h (agree_less _ (LegsAreFree ls) g h (λ t x. inr x) r) s q in λ i. p i || u i

pub taken_free : (e : ExprTree) (g h : Named Origin) → AgreeOn (IsFree e) g h → takes e g ≡ takes e h
taken_free e g h r = λ i s q. takes_free e g h r s q i

some_taken_free : (es : ExprTrees) (g h : Named Origin) → AgreeOn (AreFree es) g h → some_take es g ≡ some_take es h
some_taken_free es g h r = λ i s q. some_take_free es g h r s q i

leg_taken_free : (l : LegTree) (g h : Named Origin) → AgreeOn (LegIsFree l) g h → leg_takes l g ≡ leg_takes l h
leg_taken_free l g h r = λ i s q. leg_takes_free l g h r s q i

legs_taken_free : (ls : LegTrees) (g h : Named Origin) → AgreeOn (LegsAreFree ls) g h → legs_take ls g ≡ legs_take ls h
legs_taken_free ls g h r = λ i s q. legs_take_free ls g h r s q i

-- ---- that each is taken once

apart_free : (a b c d : Taken) → a ≡ c → b ≡ d → Apart a b → Apart c d
apart_free a b c d p q h = subst (λ x. Apart x d) p (subst (Apart a) q h)

one_splits_free : (k : One) (e : ExprTree) (o p : Origin) → o ≡ p → OneSplits k e o → OneSplits k e p
one_splits_free k e o p q h = subst (OneSplits k e) q h

three_splits_free : (k : Three) (a b c d : Taken) → a ≡ c → b ≡ d → ThreeSplits k a b → ThreeSplits k c d
three_splits_free k a b c d p q h = subst (λ x. ThreeSplits k x d) p (subst (ThreeSplits k a) q h)

mutual
  pub splits_free : (e : ExprTree) (g h : Named Origin) → AgreeOn (IsFree e) g h → Splits e g → Splits e h
  splits_free (leaf a l) g h r p = tt
  splits_free (one a o e) g h r p =
      let u : AgreeOn (IsFree e) g h = record { agree = r.agree } in (splits_free e g h u p.0, one_splits_free o e _ _ (origin_free e g h u) p.1)
  splits_free (two a o e f) g h r p =
      let u = agree_less _ (IsFree e) g h (λ t x. inl x) r in let w = agree_less _ (IsFree f) g h (λ t x. inr x) r in
      let x = taken_free e g h u in let y = taken_free f g h w in
      (splits_free e g h u p.0, splits_free f g h w p.1, apart_free _ _ _ _ x y p.2, subst (TwoSplits o) y p.3)
  splits_free (three a o c e f) g h r p =
      let t = agree_less _ (IsFree c) g h (λ s x. inl x) r in let u = agree_less _ (IsFree e) g h (λ s x. inr (inl x)) r in let w = agree_less _ (IsFree f) g h (λ s x. inr (inr x)) r in
      let x = taken_free c g h t in let y = taken_free e g h u in let z = taken_free f g h w in
      (splits_free c g h t p.0, splits_free e g h u p.1, splits_free f g h w p.2, apart_free _ _ _ _ x y p.3, apart_free _ _ _ _ x z p.4, three_splits_free o _ _ _ _ y z p.5)
  splits_free (many a o es) g h r p = all_split_free es g h (record { agree = r.agree }) p
  splits_free (let_in a b e f) g h r p =
      let u = agree_less _ (IsFree e) g h (λ t x. inl x) r in
      let inner = agree_bind _ (IsFree f) b.sym.0 (origin e g) g h (λ t x ne. inr (x, ne)) r in
      let same = origin_free e g h u in
      let y : takes f ((b.sym.0, origin e g) ∷ g) ≡ takes f ((b.sym.0, origin e h) ∷ h) = taken_free f _ _ inner ∙ ap (λ o. takes f ((b.sym.0, o) ∷ h)) same in (
        splits_free e g h u p.0,
        subst (λ o. Splits f ((b.sym.0, o) ∷ h)) same (splits_free f _ _ inner p.1),
        apart_free _ _ _ _ (taken_free e g h u) (ap (without b.sym.0) y) p.2,
        subst (λ o. TakesAll b.sym.0 o (takes f ((b.sym.0, origin e h) ∷ h))) same (subst (TakesAll b.sym.0 (origin e g)) y p.3),
      )
  splits_free (loop a ls e b n x f) g h r p =
      let t = agree_less _ (LegsAreFree ls) g h (λ s y. inl y) r in let u = agree_less _ (IsFree e) g h (λ s y. inr (inl y)) r in
      let same = origin_free e g h u in
      let inner : AgreeOn (IsFree f) (in_body b n x (origin e g) g) (in_body b n x (origin e g) h) =
      agree_body ls e f b n x (own_paths (origin e g)) value value (outside g) (outside h) (agree_outside _ g h (record { agree = r.agree })) in
      let y : takes f (in_body b n x (origin e g) g) ≡ takes f (in_body b n x (origin e h) h) = taken_free f _ _ inner ∙ ap (λ o. takes f (in_body b n x o h)) same in (
        legs_split_free ls g h t p.0,
        splits_free e g h u p.1,
        apart_free _ _ _ _ (legs_taken_free ls g h t) (taken_free e g h u) p.2,
        subst (λ o. Splits f (in_body b n x o h)) same (splits_free f _ _ inner p.3),
        subst (λ o. TakesAll b.sym.0 (own_paths o) (takes f (in_body b n x (origin e h) h))) same (subst (TakesAll b.sym.0 (own_paths (origin e g))) y p.4),
      )
  splits_free (iterate a e b f) g h r p = (
    splits_free e g h (agree_less _ (IsFree e) g h (λ t x. inl x) r) p.0,
    splits_free f _ _ (agree_bind _ (IsFree f) b.sym.0 value (outside g) (outside h) (λ s x ne. inr (x, ne)) (agree_outside _ g h (record { agree = r.agree }))) p.1,
  )

  all_split_free : (es : ExprTrees) (g h : Named Origin) → AgreeOn (AreFree es) g h → AllSplit es g → AllSplit es h
  all_split_free no_exprs g h r p = tt
  all_split_free (more_exprs e es) g h r p =
      let u = agree_less _ (IsFree e) g h (λ t x. inl x) r in let w = agree_less _ (AreFree es) g h (λ t x. inr x) r in
      (splits_free e g h u p.0, all_split_free es g h w p.1, apart_free _ _ _ _ (taken_free e g h u) (some_taken_free es g h w) p.2)

  leg_splits_free : (l : LegTree) (g h : Named Origin) → AgreeOn (LegIsFree l) g h → LegSplits l g → LegSplits l h
  leg_splits_free (whole e) g h r p = splits_free e g h (record { agree = r.agree }) p
  leg_splits_free (strided e f k i) g h r p =
      let t = agree_less _ (IsFree e) g h (λ s x. inl x) r in let u = agree_less _ (IsFree f) g h (λ s x. inr (inl x)) r in
      let v = agree_less _ (IsFree k) g h (λ s x. inr (inr (inl x))) r in let w = agree_less _ (IsFree i) g h (λ s x. inr (inr (inr x))) r in
      let a = taken_free e g h t in let b = taken_free f g h u in let c = taken_free k g h v in let d = taken_free i g h w in (
        splits_free e g h t p.0,
        splits_free f g h u p.1,
        splits_free k g h v p.2,
        splits_free i g h w p.3,
        apart_free _ _ _ _ a b p.4,
        apart_free _ _ _ _ a c p.5,
        apart_free _ _ _ _ a d p.6,
        apart_free _ _ _ _ b c p.7,
        apart_free _ _ _ _ b d p.8,
        apart_free _ _ _ _ c d p.9,
      )

  legs_split_free : (ls : LegTrees) (g h : Named Origin) → AgreeOn (LegsAreFree ls) g h → LegsSplit ls g → LegsSplit ls h
  legs_split_free no_legs g h r p = tt
  legs_split_free (more_legs l ls) g h r p =
      let u = agree_less _ (LegIsFree l) g h (λ s x. inl x) r in let w = agree_less _ (LegsAreFree ls) g h (λ s x. inr x) r in
      (leg_splits_free l g h u p.0, legs_split_free ls g h w p.1, apart_free _ _ _ _ (leg_taken_free l g h u) (legs_taken_free ls g h w) p.2)
