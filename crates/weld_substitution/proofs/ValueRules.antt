-- Where such a value is put in a name's place, each part takes what it took, and the rules of linear use are kept.
use Rattle.std.proofs.Common.{◌≡◌, ◌≢◌, ℕ, ◌==◌, if◌then◌else◌, Bool, true, false, ◌||◌, [], ◌∷◌, Option, Some, None, refl, ap, sym, subst, ◌∙◌, eq-eqb, ne_eqb, ◌⊎◌, inl, inr}
use Rattle.std.proofs.lemmas.Bool.{cases_eq}
use Rattle.weld_tree.specs.ExprTree.{At, ExprTree, leaf, one, two, three, many, let_in, loop, iterate, ExprTrees, no_exprs, more_exprs, LegTree, whole, strided, LegTrees, no_legs, more_legs, Leaf, int, truth, chars, name, fresh, One, neg, not, cast, len, field, finish, started, Three, if_else, select, slice}
use Rattle.weld_meaning.specs.Environment.{Named}
use Rattle.weld_meaning.specs.Origin.{Path, Origin, value, is_value, field_origin, known_origin, origin_of_name, origin, own_paths, in_body, by_name}
use Rattle.weld_meaning.specs.Linear.{IsSeen, IsNotMade, LeafKeeps, OneKeeps, ThreeKeeps, Keeps, AllKeep, LegKeeps, LegsKeep}
use Rattle.weld_meaning.specs.Available.{Taken, TakesAll, without, chain_of_one, chain_of, chain_takes, takes, some_take, leg_takes, legs_take, ChainSplits, OneSplits, TwoSplits, ThreeSplits, Splits, AllSplit, LegSplits, LegsSplit}
use Rattle.weld_meaning.specs.Names.{IsFree, put_in_leaf, put, put_in_all, put_in_leg, put_in_legs, Binds, AllBind, LegBinds, LegsBind, IsClear}
use Rattle.weld_meaning.proofs.FreeNames.{taken_free}
use Rattle.weld_rewriting.proofs.Forms.{chain_takes_none, takes_chain}
use Rattle.weld_rewriting.proofs.Nodes.{apart_same}
use Rattle.weld_substitution.proofs.Bindings.{agree_besides}
use Rattle.weld_substitution.proofs.Chains.{chain_by, chain_only, chain_origin}
use Rattle.weld_substitution.proofs.Values.{Idle, IsIdle, Still, still_behind, still_by_name, still_in_body, still_in_turn, from_still, chain_after}

-- ---- chains

-- one on another name stays
pub chain_other : (s : ℕ) (v e : ExprTree) (c : ℕ × Path) → chain_of e ≡ Some c → s ≢ c.0 → put s v e ≡ e
chain_other s v e c k ne =
    chain_by (λ x y. s ≢ y.0 → put s v x ≡ x) (λ a x nx. ap (λ b. if b then v else leaf a (name x)) (ne_eqb s x nx)) (λ a n x y m f nx. ap (one a (field n)) (f nx)) e c k ne

field_of_none : (n : ℕ) (m : Option (ℕ × Path)) → chain_of_one (field n) m ≡ None → m ≡ None
field_of_none n (Some x) h = let nothing : ⊥ = cc in absurd nothing
field_of_none n None h = refl

-- what was none doesn't become one
pub none_put : (s : ℕ) (v e : ExprTree) → chain_of e ≡ None → chain_of (put s v e) ≡ None
none_put s v (leaf a (int k x)) h = refl
none_put s v (leaf a (truth b)) h = refl
none_put s v (leaf a (chars bs)) h = refl
none_put s v (leaf a (name x)) h = let nothing : ⊥ = cc in absurd nothing
none_put s v (leaf a (fresh b)) h = refl
none_put s v (one a neg e) h = refl
none_put s v (one a not e) h = refl
none_put s v (one a (cast k) e) h = refl
none_put s v (one a len e) h = refl
none_put s v (one a (field n) e) h = ap (chain_of_one (field n)) (none_put s v e (field_of_none n (chain_of e) h))
none_put s v (one a finish e) h = refl
none_put s v (one a (started b) e) h = refl
none_put s v (two a o e f) h = refl
none_put s v (three a o d e f) h = refl
none_put s v (many a o es) h = refl
none_put s v (let_in a b e f) h = refl
none_put s v (loop a ls e b n x f) h = refl
none_put s v (iterate a e b f) h = refl

-- ---- what is taken

module _ (s : ℕ) (v : ExprTree) (w : IsIdle v) where
  chain_still : (e : ExprTree) (c : ℕ × Path) (g h : Named Origin) → chain_of e ≡ Some c → Still s v g h → (t : ℕ) (q : Path) → takes (put s v e) g t q ≡ takes e h t q
  chain_still e c g h k r t q = by (cases_eq s c.0)
    where
      by : (s ≡ c.0) ⊎ (s ≢ c.0) → takes (put s v e) g t q ≡ takes e h t q
      by (inl p) =
          let here : origin_of_name c.0 h ≡ value = subst (λ x. origin_of_name x h ≡ value) p (ap known_origin r.binding.there) in
          (chain_after s v w g r.idle e c k p).1 t q ∙ sym (takes_chain e c h t q false k ∙ chain_takes_none c h t q false here)
      by (inr ne) =
          ap (λ x. takes x g t q) (chain_other s v e c k ne)
          ∙ ap (λ (f : Taken). f t q) (taken_free e g h (agree_besides (IsFree e) s value g h (λ f. ne (chain_only e c s k f)) r.binding))

  mutual
    still_takes : (e : ExprTree) (g h : Named Origin) → Binds (IsClear s v) e → Still s v g h → (t : ℕ) (q : Path) → takes (put s v e) g t q ≡ takes e h t q
    still_takes (leaf a (int k x)) g h c r t q = refl
    still_takes (leaf a (truth b)) g h c r t q = refl
    still_takes (leaf a (chars bs)) g h c r t q = refl
    still_takes (leaf a (name x)) g h c r t q = chain_still (leaf a (name x)) (x, []) g h refl r t q
    still_takes (leaf a (fresh b)) g h c r t q = refl
    still_takes (one a o e) g h c r t q = by (chain_of_one o (chain_of e)) refl (still_takes e g h c r t q)
      where
        by : (m : Option (ℕ × Path)) → chain_of_one o (chain_of e) ≡ m → takes (put s v e) g t q ≡ takes e h t q → takes (put s v (one a o e)) g t q ≡ takes (one a o e) h t q
        by (Some d) k f = chain_still (one a o e) d g h k r t q
        by None k f =
            ap (λ m. chain_takes m g t q (takes (put s v e) g t q)) (none_put s v (one a o e) k) ∙ f ∙ ap (λ m. chain_takes m h t q (takes e h t q)) (sym k)
    still_takes (two a o e f) g h c r t q =
        let x = still_takes e g h c.0 r t q in let y = still_takes f g h c.1 r t q in λ i. x i || y i
    still_takes (three a o d e f) g h c r t q =
        let x = still_takes d g h c.0 r t q in let y = still_takes e g h c.1 r t q in let z = still_takes f g h c.2 r t q in λ i. x i || (y i || z i)
    still_takes (many a o es) g h c r t q = all_still_take es g h c r t q
    still_takes (let_in a b e f) g h c r t q =
        let x = still_takes e g h c.1 r t q in
        let y = ap (λ o. takes (put s v f) ((b.sym.0, o) ∷ g) t q) (from_still s v w e g h c.1 r)
        ∙ still_takes f ((b.sym.0, origin e h) ∷ g) ((b.sym.0, origin e h) ∷ h) c.2 (still_behind s v g h b.sym.0 (origin e h) c.0 r) t q in
        λ i. x i || (if b.sym.0 == t then false else y i)
    still_takes (loop a ls e b n x f) g h c r t q =
        let y = legs_still_take ls g h c.3 r t q in let z = still_takes e g h c.4 r t q in λ i. y i || z i
    still_takes (iterate a e b f) g h c r t q = still_takes e g h c.1 r t q

    all_still_take : (es : ExprTrees) (g h : Named Origin) → AllBind (IsClear s v) es → Still s v g h → (t : ℕ) (q : Path) → some_take (put_in_all s v es) g t q ≡ some_take es h t q
    all_still_take no_exprs g h c r t q = refl
    all_still_take (more_exprs e es) g h c r t q =
        let x = still_takes e g h c.0 r t q in let y = all_still_take es g h c.1 r t q in λ i. x i || y i

    leg_still_takes : (l : LegTree) (g h : Named Origin) → LegBinds (IsClear s v) l → Still s v g h → (t : ℕ) (q : Path) → leg_takes (put_in_leg s v l) g t q ≡ leg_takes l h t q
    leg_still_takes (whole e) g h c r t q = still_takes e g h c r t q
    leg_still_takes (strided e f i j) g h c r t q =
        let x = still_takes e g h c.0 r t q in let y = still_takes f g h c.1 r t q in let z = still_takes i g h c.2 r t q in let u = still_takes j g h c.3 r t q in
        λ m. x m || (y m || (z m || u m))

    legs_still_take : (ls : LegTrees) (g h : Named Origin) → LegsBind (IsClear s v) ls → Still s v g h → (t : ℕ) (q : Path) → legs_take (put_in_legs s v ls) g t q ≡ legs_take ls h t q
    legs_still_take no_legs g h c r t q = refl
    legs_still_take (more_legs l ls) g h c r t q =
        let x = leg_still_takes l g h c.0 r t q in let y = legs_still_take ls g h c.1 r t q in λ i. x i || y i

  pub still_taken : (e : ExprTree) (g h : Named Origin) → Binds (IsClear s v) e → Still s v g h → takes (put s v e) g ≡ takes e h
  still_taken e g h c r = λ i t q. still_takes e g h c r t q i

  all_still_taken : (es : ExprTrees) (g h : Named Origin) → AllBind (IsClear s v) es → Still s v g h → some_take (put_in_all s v es) g ≡ some_take es h
  all_still_taken es g h c r = λ i t q. all_still_take es g h c r t q i

  leg_still_taken : (l : LegTree) (g h : Named Origin) → LegBinds (IsClear s v) l → Still s v g h → leg_takes (put_in_leg s v l) g ≡ leg_takes l h
  leg_still_taken l g h c r = λ i t q. leg_still_takes l g h c r t q i

  legs_still_taken : (ls : LegTrees) (g h : Named Origin) → LegsBind (IsClear s v) ls → Still s v g h → legs_take (put_in_legs s v ls) g ≡ legs_take ls h
  legs_still_taken ls g h c r = λ i t q. legs_still_take ls g h c r t q i

  -- ---- the rules on origins

  leaf_still_keeps : (a : At) (l : Leaf) (g h : Named Origin) → Still s v g h → LeafKeeps l h → Keeps (put_in_leaf s v a l) g
  leaf_still_keeps a (int k x) g h r p = tt
  leaf_still_keeps a (truth b) g h r p = tt
  leaf_still_keeps a (chars bs) g h r p = tt
  leaf_still_keeps a (name x) g h r p = by (cases_eq s x)
    where
      by : (s ≡ x) ⊎ (s ≢ x) → Keeps (if s == x then v else leaf a (name x)) g
      by (inl e) = rw (eq-eqb s x e) (w.keeps g r.idle)
      by (inr ne) = rw (ne_eqb s x ne) (subst (λ m. IsSeen (known_origin m)) (sym (r.binding.others x (λ e. ne (sym e)))) p)
  leaf_still_keeps a (fresh b) g h r p = tt

  three_still_keep : (o : Three) (e f : ExprTree) (g h : Named Origin) → Binds (IsClear s v) e → Binds (IsClear s v) f → Still s v g h → ThreeKeeps o e f h → ThreeKeeps o (put s v e) (put s v f) g
  three_still_keep if_else e f g h c d r k =
      let x = from_still s v w e (by_name g) (by_name h) c (still_by_name s v g h r) in
      let y = from_still s v w f (by_name g) (by_name h) d (still_by_name s v g h r) in
      record { same = x ∙ k.same ∙ sym y; not_made = subst IsNotMade (sym x) k.not_made }
  three_still_keep select e f g h c d r k = tt
  three_still_keep slice e f g h c d r k = tt

  mutual
    pub still_keeps : (e : ExprTree) (g h : Named Origin) → Binds (IsClear s v) e → Still s v g h → Keeps e h → Keeps (put s v e) g
    still_keeps (leaf a l) g h c r k = leaf_still_keeps a l g h r k
    still_keeps (one a o e) g h c r k = (still_keeps e g h c r k.0, subst (OneKeeps o) (sym (from_still s v w e g h c r)) k.1)
    still_keeps (two a o e f) g h c r k = (still_keeps e g h c.0 r k.0, still_keeps f g h c.1 r k.1)
    still_keeps (three a o d e f) g h c r k =
        (still_keeps d g h c.0 r k.0, still_keeps e g h c.1 r k.1, still_keeps f g h c.2 r k.2, three_still_keep o e f g h c.1 c.2 r k.3)
    still_keeps (many a o es) g h c r k = all_still_keep es g h c r k
    still_keeps (let_in a b e f) g h c r k = (
      still_keeps e g h c.1 r k.0,
      subst (λ o. Keeps (put s v f) ((b.sym.0, o) ∷ g)) (sym (from_still s v w e g h c.1 r))
          (still_keeps f ((b.sym.0, origin e h) ∷ g) ((b.sym.0, origin e h) ∷ h) c.2 (still_behind s v g h b.sym.0 (origin e h) c.0 r) k.1),
    )
    still_keeps (loop a ls e b n x f) g h c r k =
        let same = sym (from_still s v w e g h c.4 r) in
        let inner = still_in_body s v g h b n x (origin e h) c.0 c.1 c.2 r in (
          legs_still_keep ls g h c.3 r k.0,
          still_keeps e g h c.4 r k.1,
          subst (λ o. Keeps (put s v f) (in_body b n x o g)) same (still_keeps f _ _ c.5 inner k.2),
          subst (λ o. origin (put s v f) (in_body b n x o g) ≡ own_paths o) same (from_still s v w f _ _ c.5 inner ∙ k.3),
        )
    still_keeps (iterate a e b f) g h c r k = (still_keeps e g h c.1 r k.0, still_keeps f _ _ c.2 (still_in_turn s v g h b c.0 r) k.1)

    all_still_keep : (es : ExprTrees) (g h : Named Origin) → AllBind (IsClear s v) es → Still s v g h → AllKeep es h → AllKeep (put_in_all s v es) g
    all_still_keep no_exprs g h c r k = tt
    all_still_keep (more_exprs e es) g h c r k = (still_keeps e g h c.0 r k.0, all_still_keep es g h c.1 r k.1)

    leg_still_keeps : (l : LegTree) (g h : Named Origin) → LegBinds (IsClear s v) l → Still s v g h → LegKeeps l h → LegKeeps (put_in_leg s v l) g
    leg_still_keeps (whole e) g h c r k = still_keeps e g h c r k
    leg_still_keeps (strided e f i j) g h c r k =
        (still_keeps e g h c.0 r k.0, still_keeps f g h c.1 r k.1, still_keeps i g h c.2 r k.2, still_keeps j g h c.3 r k.3)

    legs_still_keep : (ls : LegTrees) (g h : Named Origin) → LegsBind (IsClear s v) ls → Still s v g h → LegsKeep ls h → LegsKeep (put_in_legs s v ls) g
    legs_still_keep no_legs g h c r k = tt
    legs_still_keep (more_legs l ls) g h c r k = (leg_still_keeps l g h c.0 r k.0, legs_still_keep ls g h c.1 r k.1)

  -- ---- that each is taken once

  leaf_still_splits : (a : At) (l : Leaf) (g : Named Origin) → Idle v g → Splits (put_in_leaf s v a l) g
  leaf_still_splits a (int k x) g r = tt
  leaf_still_splits a (truth b) g r = tt
  leaf_still_splits a (chars bs) g r = tt
  leaf_still_splits a (name x) g r = by (s == x)
    where
      by : (b : Bool) → Splits (if b then v else leaf a (name x)) g
      by true = w.splits g r
      by false = tt
  leaf_still_splits a (fresh b) g r = tt

  -- a field of what is no chain any more is of a value
  field_still_splits : (n : ℕ) (e : ExprTree) (g h : Named Origin) → Binds (IsClear s v) e → Still s v g h → ChainSplits (chain_of e) (field_origin n (origin e h)) → ChainSplits (chain_of (put s v e)) (field_origin n (origin (put s v e) g))
  field_still_splits n e g h c r k = by (chain_of (put s v e)) (chain_of e) refl refl
    where
      from : origin (put s v e) g ≡ origin e h
      from = from_still s v w e g h c r

      by : (m d : Option (ℕ × Path)) → chain_of (put s v e) ≡ m → chain_of e ≡ d → ChainSplits m (field_origin n (origin (put s v e) g))
      by (Some x) d p q = tt
      by None (Some x) p q = one_of (cases_eq s x.0)
        where
          one_of : (s ≡ x.0) ⊎ (s ≢ x.0) → is_value (field_origin n (origin (put s v e) g)) ≡ true
          one_of (inl y) =
              let here : origin_of_name x.0 h ≡ value = subst (λ z. origin_of_name z h ≡ value) y (ap known_origin r.binding.there) in
              ap (λ o. is_value (field_origin n o)) (from ∙ chain_origin h e x q here)
          one_of (inr ne) =
              let stays : chain_of (put s v e) ≡ Some x = ap chain_of (chain_other s v e x q ne) ∙ q in let nothing : ⊥ = cc in absurd nothing
      by None None p q = ap (λ o. is_value (field_origin n o)) from ∙ subst (λ m. ChainSplits m (field_origin n (origin e h))) q k

  one_still_splits : (o : One) (e : ExprTree) (g h : Named Origin) → Binds (IsClear s v) e → Still s v g h → OneSplits o e (origin e h) → OneSplits o (put s v e) (origin (put s v e) g)
  one_still_splits neg e g h c r k = tt
  one_still_splits not e g h c r k = tt
  one_still_splits (cast x) e g h c r k = tt
  one_still_splits len e g h c r k = tt
  one_still_splits (field n) e g h c r k = field_still_splits n e g h c r k
  one_still_splits finish e g h c r k = tt
  one_still_splits (started b) e g h c r k = tt

  mutual
    pub still_splits : (e : ExprTree) (g h : Named Origin) → Binds (IsClear s v) e → Still s v g h → Splits e h → Splits (put s v e) g
    still_splits (leaf a l) g h c r k = leaf_still_splits a l g r.idle
    still_splits (one a o e) g h c r k = (still_splits e g h c r k.0, one_still_splits o e g h c r k.1)
    still_splits (two a o e f) g h c r k = (
      still_splits e g h c.0 r k.0,
      still_splits f g h c.1 r k.1,
      apart_same _ _ _ _ (still_taken e g h c.0 r) (still_taken f g h c.1 r) k.2,
      subst (TwoSplits o) (sym (still_taken f g h c.1 r)) k.3,
    )
    still_splits (three a o d e f) g h c r k =
        let i = still_taken d g h c.0 r in let j = still_taken e g h c.1 r in let l = still_taken f g h c.2 r in (
          still_splits d g h c.0 r k.0,
          still_splits e g h c.1 r k.1,
          still_splits f g h c.2 r k.2,
          apart_same _ _ _ _ i j k.3,
          apart_same _ _ _ _ i l k.4,
          subst (λ m. ThreeSplits o m (takes (put s v f) g)) (sym j) (subst (ThreeSplits o (takes e h)) (sym l) k.5),
        )
    still_splits (many a o es) g h c r k = all_still_split es g h c r k
    still_splits (let_in a b e f) g h c r k =
        let same = sym (from_still s v w e g h c.1 r) in
        let inner = still_behind s v g h b.sym.0 (origin e h) c.0 r in
        let y : takes (put s v f) ((b.sym.0, origin (put s v e) g) ∷ g) ≡ takes f ((b.sym.0, origin e h) ∷ h) =
        ap (λ o. takes (put s v f) ((b.sym.0, o) ∷ g)) (sym same) ∙ still_taken f _ _ c.2 inner in (
          still_splits e g h c.1 r k.0,
          subst (λ o. Splits (put s v f) ((b.sym.0, o) ∷ g)) same (still_splits f _ _ c.2 inner k.1),
          apart_same _ _ _ _ (still_taken e g h c.1 r) (ap (without b.sym.0) y) k.2,
          subst (λ o. TakesAll b.sym.0 o (takes (put s v f) ((b.sym.0, origin (put s v e) g) ∷ g))) same (subst (TakesAll b.sym.0 (origin e h)) (sym y) k.3),
        )
    still_splits (loop a ls e b n x f) g h c r k =
        let same = sym (from_still s v w e g h c.4 r) in
        let inner = still_in_body s v g h b n x (origin e h) c.0 c.1 c.2 r in
        let y : takes (put s v f) (in_body b n x (origin (put s v e) g) g) ≡ takes f (in_body b n x (origin e h) h) =
        ap (λ o. takes (put s v f) (in_body b n x o g)) (sym same) ∙ still_taken f _ _ c.5 inner in (
          legs_still_split ls g h c.3 r k.0,
          still_splits e g h c.4 r k.1,
          apart_same _ _ _ _ (legs_still_taken ls g h c.3 r) (still_taken e g h c.4 r) k.2,
          subst (λ o. Splits (put s v f) (in_body b n x o g)) same (still_splits f _ _ c.5 inner k.3),
          subst (λ o. TakesAll b.sym.0 (own_paths o) (takes (put s v f) (in_body b n x (origin (put s v e) g) g))) same (subst (TakesAll b.sym.0 (own_paths (origin e h))) (sym y) k.4),
        )
    still_splits (iterate a e b f) g h c r k = (still_splits e g h c.1 r k.0, still_splits f _ _ c.2 (still_in_turn s v g h b c.0 r) k.1)

    all_still_split : (es : ExprTrees) (g h : Named Origin) → AllBind (IsClear s v) es → Still s v g h → AllSplit es h → AllSplit (put_in_all s v es) g
    all_still_split no_exprs g h c r k = tt
    all_still_split (more_exprs e es) g h c r k =
        (still_splits e g h c.0 r k.0, all_still_split es g h c.1 r k.1, apart_same _ _ _ _ (still_taken e g h c.0 r) (all_still_taken es g h c.1 r) k.2)

    leg_still_splits : (l : LegTree) (g h : Named Origin) → LegBinds (IsClear s v) l → Still s v g h → LegSplits l h → LegSplits (put_in_leg s v l) g
    leg_still_splits (whole e) g h c r k = still_splits e g h c r k
    leg_still_splits (strided e f i j) g h c r k =
        let x = still_taken e g h c.0 r in let y = still_taken f g h c.1 r in let z = still_taken i g h c.2 r in let u = still_taken j g h c.3 r in (
          still_splits e g h c.0 r k.0,
          still_splits f g h c.1 r k.1,
          still_splits i g h c.2 r k.2,
          still_splits j g h c.3 r k.3,
          apart_same _ _ _ _ x y k.4,
          apart_same _ _ _ _ x z k.5,
          apart_same _ _ _ _ x u k.6,
          apart_same _ _ _ _ y z k.7,
          apart_same _ _ _ _ y u k.8,
          apart_same _ _ _ _ z u k.9,
        )

    legs_still_split : (ls : LegTrees) (g h : Named Origin) → LegsBind (IsClear s v) ls → Still s v g h → LegsSplit ls h → LegsSplit (put_in_legs s v ls) g
    legs_still_split no_legs g h c r k = tt
    legs_still_split (more_legs l ls) g h c r k =
        (leg_still_splits l g h c.0 r k.0, legs_still_split ls g h c.1 r k.1, apart_same _ _ _ _ (leg_still_taken l g h c.0 r) (legs_still_taken ls g h c.1 r) k.2)
