-- What a handed body takes: what the body takes, with the paths of the other loop's builder where that takes the list's.
use Rattle.std.proofs.Common.{◌≡◌, ◌≢◌, ◌⊎◌, inl, inr, ℕ, ◌==◌, Bool, true, false, ◌&&◌, ◌||◌, if◌then◌else◌, [], ◌∷◌, Option, Some, None, refl, ap, sym, subst, ◌∙◌, eq-eqb, ne_eqb, eqb-true}
use Rattle.std.proofs.lemmas.Bool.{cases_eq}
use Rattle.weld_tree.specs.declared.binder.Binder.{Binder}
use Rattle.weld_tree.specs.TypeTree.{TypeTree}
use Rattle.weld_tree.specs.ExprTree.{At, ExprTree, leaf, one, two, three, many, let_in, loop, iterate, ExprTrees, no_exprs, more_exprs, LegTree, whole, strided, LegTrees, no_legs, more_legs, int, truth, chars, name, fresh, One, Two}
use Rattle.weld_meaning.specs.Environment.{Named, look_for}
use Rattle.weld_meaning.specs.Origin.{Path, Origin, value, known_origin, origin_of_name, origin, own_paths, from_within, outside, in_body}
use Rattle.weld_meaning.specs.Linear.{IsSeen, Keeps}
use Rattle.weld_meaning.specs.Available.{is_below, is_builder_path, chain_of_one, chain_of, chain_takes, takes, some_take, leg_takes, legs_take, Taken, without}
use Rattle.weld_meaning.specs.Names.{IsFree, AreFree, LegIsFree, LegsAreFree, Binds, AllBind, LegBinds, LegsBind}
use Rattle.weld_meaning.proofs.Before.{origin_outside}
use Rattle.weld_meaning.proofs.FreeNames.{taken_free}
use Rattle.weld_rewriting.proofs.Forms.{no_builder_path}
use Rattle.weld_substitution.proofs.Bindings.{agree_over, agree_after}
use Rattle.weld_substitution.proofs.Chains.{or_true, taken_builds, taken_named}
use Rattle.weld_substitution.proofs.Following.{and_true, or_left, or_right, same_truth}
use Rattle.weld_substitution.proofs.Unnamed.{kept_seen}
use Rattle.weld_vertical.specs.Sinking.{is_merge}
use Rattle.weld_handing.specs.Handing.{is_held, handed_two, handed, all_handed, leg_handed, legs_handed}
use Rattle.weld_vertical.proofs.Seen.{seen_no_path}
use Rattle.weld_handing.proofs.Traces.{handed_origin}
use Rattle.weld_handing.proofs.Answering.{IsClear, AllClear, LegClear, LegsClear, Consumes, Aside, Behind, Names, names_bind, name_handed, builder_not_free, count_not_free}
use Rattle.weld_handing.proofs.Keeping.{from_there}
use Rattle.weld_handing.proofs.Cutting.{cut, Unheld, chain_cut, clear_chain}

-- ---- truth values

pub and_over : (a b c : Bool) → ((a && c) || (b && c)) ≡ ((a || b) && c)
and_over true true true = refl
and_over true true false = refl
and_over true false true = refl
and_over true false false = refl
and_over false true true = refl
and_over false true false = refl
and_over false false true = refl
and_over false false false = refl

and_past : (a b c : Bool) → (a && (b && c)) ≡ ((a && b) && c)
and_past true b c = refl
and_past false b c = refl

module _ (t : TypeTree) (i : ℕ) (c n x : Binder) (f : ExprTree) (start : Origin) (around : Named Origin) where
  abbrev Clears : ℕ → Type 0
  Clears = Aside t i c n x f start around

  abbrev These : Named Origin → Named Origin → Type 0
  These q l = Names t i c n x f start around q q l

  abbrev Known : Type 0
  Known = Consumes t i c n x f start around

  abbrev turned : Named Origin → ExprTree → ExprTree
  turned q e = handed t i c n x f q e

  -- of what is taken, by the path that is cut off at the list's builder
  abbrev pub Part : Taken → Named Origin → Named Origin → Taken
  Part taken q l s w = taken s (cut (origin_of_name s q) w) && is_builder_path (origin_of_name s l) w

  -- ---- a name with fields

  two_chain : (b : Bool) (o : Origin) (a : At) (m : Two) (e v : ExprTree) → chain_of (handed_two b t i c n x f o a m e v) ≡ None
  two_chain true o a m e v = refl
  two_chain false o a m e v = refl

  pub same_chain : (q : Named Origin) (e : ExprTree) → chain_of (turned q e) ≡ chain_of e
  same_chain q (leaf a l) = refl
  same_chain q (one a o e) = ap (chain_of_one o) (same_chain q e)
  same_chain q (two a o e v) = two_chain (is_merge o && is_held (origin e q)) (origin e q) a o (turned q e) (turned q v)
  same_chain q (three a o d e g) = refl
  same_chain q (many a o es) = refl
  same_chain q (let_in a z v g) = refl
  same_chain q (loop a ls e b m y g) = refl
  same_chain q (iterate a e b g) = refl

  -- what a name with fields takes of it
  chain_part : (q l : Named Origin) → These q l → (d : ℕ × Path) → Unheld d.1 (origin_of_name d.0 q) → (s : ℕ) (w : Path) (y u : Bool) → chain_takes (Some d) l s w y ≡ (chain_takes (Some d) q s (cut (origin_of_name s q) w) u && is_builder_path (origin_of_name s l) w)
  chain_part q l r d h s w y u = by (d.0 == s) refl
    where
      here : d.0 ≡ s → (is_below d.1 w && is_builder_path (origin_of_name s l) w) ≡ ((is_below d.1 (cut (origin_of_name s q) w) && is_builder_path (origin_of_name s q) (cut (origin_of_name s q) w)) && is_builder_path (origin_of_name s l) w)
      here e =
          subst (λ o. (is_below d.1 w && is_builder_path o w) ≡ ((is_below d.1 (cut (origin_of_name s q) w) && is_builder_path (origin_of_name s q) (cut (origin_of_name s q) w)) && is_builder_path o w)) (sym (name_handed t i c n x f start around s q q l r))
          (chain_cut start (origin_of_name s q) d.1 w (subst (λ z. Unheld d.1 (origin_of_name z q)) e h))

      by : (b : Bool) → (d.0 == s) ≡ b → (b && (is_below d.1 w && is_builder_path (origin_of_name s l) w)) ≡ ((b && (is_below d.1 (cut (origin_of_name s q) w) && is_builder_path (origin_of_name s q) (cut (origin_of_name s q) w))) && is_builder_path (origin_of_name s l) w)
      by true e = here (eqb-true d.0 s e)
      by false e = refl

  one_part : (q l : Named Origin) → These q l → (a : At) (o : One) (e : ExprTree) → IsClear q (one a o e) → (s : ℕ) (w : Path) → takes (turned q e) l s w ≡ Part (takes e q) q l s w → (m : Option (ℕ × Path)) → chain_of_one o (chain_of e) ≡ m → chain_takes m l s w (takes (turned q e) l s w) ≡ (chain_takes m q s (cut (origin_of_name s q) w) (takes e q s (cut (origin_of_name s q) w)) && is_builder_path (origin_of_name s l) w)
  one_part q l r a o e clear s w it None is = it
  one_part q l r a o e clear s w it (Some d) is =
      chain_part q l r d (clear_chain q (one a o e) d is clear) s w (takes (turned q e) l s w) (takes e q s (cut (origin_of_name s q) w))

  -- ---- a merge, into the list or not

  past_both : (s z : ℕ) (y : Bool) → z ≢ s → (if z == s then false else y) ≡ y
  past_both s z y ne = rw (ne_eqb z s ne) refl

  gone : (z s : ℕ) (y : Bool) → (if z == s then false else y) ≡ true → (z ≢ s) × (y ≡ true)
  gone z s y h = by (cases_eq z s)
    where
      by : (z ≡ s) ⊎ (z ≢ s) → (z ≢ s) × (y ≡ true)
      by (inl e) = let none : false ≡ true = subst (λ b. (if b then false else y) ≡ true) (eq-eqb z s e) h in let nothing : ⊥ = cc in absurd nothing
      by (inr ne) = (ne, subst (λ b. (if b then false else y) ≡ true) (ne_eqb z s ne) h)

  pub look_past : {A : Type 0} (s z : ℕ) (y : A) (g : Named A) → s ≢ z → look_for s ((z, y) ∷ g) ≡ look_for s g
  look_past s z y g ne = rw (ne_eqb s z ne) refl

  -- neither the row number nor the other loop's body takes any builder but that
  module _ (known : Known) (keeps : Keeps f (in_body c n x start around)) (q l : Named Origin) (r : These q l) (v : ExprTree) (not_c : IsFree v c.sym.0 → ⊥) (not_n : IsFree v n.sym.0 → ⊥) (o u k : Origin) where
    abbrev pub one_in : Named Origin
    one_in = (c.sym.0, o) ∷ l

    abbrev pub two_in : Named Origin
    two_in = (n.sym.0, u) ∷ one_in

    abbrev pub three_in : Named Origin
    three_in = (x.sym.0, k) ∷ two_in

    abbrev pub Rest : Taken
    Rest s w =
        if c.sym.0 == s then false else (chain_takes (Some (i, [])) one_in s w false || (if n.sym.0 == s then false else (takes (turned q v) two_in s w || (if x.sym.0 == s then false else takes f three_in s w))))

    pub value_taken : takes (turned q v) two_in ≡ takes (turned q v) l
    value_taken =
        sym (taken_free (turned q v) l two_in
        (agree_after (IsFree (turned q v)) l one_in two_in (agree_over (IsFree (turned q v)) c.sym.0 o l (builder_not_free t i c n x f start around known q v not_c))
        (agree_over (IsFree (turned q v)) n.sym.0 u one_in (count_not_free t i c n x f start around known q v not_n))))

    number_taken : (s : ℕ) (w : Path) → c.sym.0 ≢ s → chain_takes (Some (i, [])) one_in s w false ≡ true → ⊥
    number_taken s w ne h =
        let y = and_true (i == s) (is_below [] w && is_builder_path (origin_of_name s one_in) w) h in
        let z = and_true (is_below [] w) (is_builder_path (origin_of_name s one_in) w) y.1 in
        let is = eqb-true i s y.0 in
        let from : origin_of_name s one_in ≡ value = ap known_origin (look_past s c.sym.0 o l (λ e. ne (sym e))) ∙ subst (λ g. origin_of_name g l ≡ value) is r.number in
        let both : false ≡ true = sym (no_builder_path w) ∙ ap (λ g. is_builder_path g w) (sym from) ∙ z.1 in
        let nothing : ⊥ = cc in absurd nothing

    pub body_taken : (s : ℕ) (w : Path) → c.sym.0 ≢ s → n.sym.0 ≢ s → x.sym.0 ≢ s → takes f three_in s w ≡ true → ⊥
    body_taken s w not_builder not_count not_row h =
        let free = taken_named f three_in s w h in
        let behind : Behind t i c n x f start around s = (free, (λ e. not_row (sym e)), (λ e. not_count (sym e)), (λ e. not_builder (sym e))) in
        let there : origin_of_name s three_in ≡ origin_of_name s l =
        ap known_origin (look_past s x.sym.0 k two_in (λ e. not_row (sym e)) ∙ look_past s n.sym.0 u one_in (λ e. not_count (sym e)) ∙ look_past s c.sym.0 o l (λ e. not_builder (sym e))) in
        let from : origin_of_name s l ≡ from_within (origin_of_name s around) = ap known_origin (sym (r.behind.agree s behind)) ∙ origin_outside s around in
        let mine : origin_of_name s (in_body c n x start around) ≡ from_within (origin_of_name s around) =
        ap known_origin (look_past s x.sym.0 value ((n.sym.0, value) ∷ (c.sym.0, own_paths start) ∷ outside around) (λ e. not_row (sym e)) ∙ look_past s n.sym.0 value ((c.sym.0, own_paths start) ∷ outside around) (λ e. not_count (sym e)) ∙ look_past s c.sym.0 (own_paths start) (outside around) (λ e. not_builder (sym e))) ∙ origin_outside s around in
        let seen = subst IsSeen mine (kept_seen f (in_body c n x start around) s keeps free) in
        let none = seen_no_path (origin_of_name s around) w seen in
        let both : false ≡ true = sym none ∙ ap (λ g. is_builder_path g w) (sym (there ∙ from)) ∙ taken_builds f three_in s w h in
        let nothing : ⊥ = cc in absurd nothing

    pub rest_taken : (s : ℕ) (w : Path) → Rest s w ≡ takes (turned q v) l s w
    rest_taken s w = same_truth (Rest s w) (takes (turned q v) l s w) there back
      where
        there : Rest s w ≡ true → takes (turned q v) l s w ≡ true
        there h = by (gone c.sym.0 s _ h)
          where
            inner : c.sym.0 ≢ s → (n.sym.0 ≢ s) × ((takes (turned q v) two_in s w || (if x.sym.0 == s then false else takes f three_in s w)) ≡ true) → takes (turned q v) l s w ≡ true
            inner not_builder k = last (or_true (takes (turned q v) two_in s w) (if x.sym.0 == s then false else takes f three_in s w) k.1)
              where
                last : (takes (turned q v) two_in s w ≡ true) ⊎ ((if x.sym.0 == s then false else takes f three_in s w) ≡ true) → takes (turned q v) l s w ≡ true
                last (inl e) = ap (λ (y : Taken). y s w) (sym value_taken) ∙ e
                last (inr e) = let g = gone x.sym.0 s (takes f three_in s w) e in absurd (body_taken s w not_builder k.0 g.0 g.1)

            by : (c.sym.0 ≢ s) × ((chain_takes (Some (i, [])) one_in s w false || (if n.sym.0 == s then false else (takes (turned q v) two_in s w || (if x.sym.0 == s then false else takes f three_in s w)))) ≡ true) → takes (turned q v) l s w ≡ true
            by k = step (or_true (chain_takes (Some (i, [])) one_in s w false) _ k.1)
              where
                step : (chain_takes (Some (i, [])) one_in s w false ≡ true) ⊎ ((if n.sym.0 == s then false else (takes (turned q v) two_in s w || (if x.sym.0 == s then false else takes f three_in s w))) ≡ true) → takes (turned q v) l s w ≡ true
                step (inl e) = absurd (number_taken s w k.0 e)
                step (inr e) = inner k.0 (gone n.sym.0 s _ e)

        back : takes (turned q v) l s w ≡ true → Rest s w ≡ true
        back h =
            let free = taken_named (turned q v) l s w h in
            let not_builder : c.sym.0 ≢ s = λ e. builder_not_free t i c n x f start around known q v not_c (subst (IsFree (turned q v)) (sym e) free) in
            let not_count : n.sym.0 ≢ s = λ e. count_not_free t i c n x f start around known q v not_n (subst (IsFree (turned q v)) (sym e) free) in
            past_both s c.sym.0 _ not_builder
            ∙ or_right (chain_takes (Some (i, [])) one_in s w false) _
            (past_both s n.sym.0 _ not_count ∙ or_left (takes (turned q v) two_in s w) (if x.sym.0 == s then false else takes f three_in s w) (ap (λ (y : Taken). y s w) value_taken ∙ h))

  two_part : (known : Known) → Keeps f (in_body c n x start around) → (a : At) (o : Two) (e v : ExprTree) (q l : Named Origin) → (IsFree v c.sym.0 → ⊥) → (IsFree v n.sym.0 → ⊥) → These q l → (s : ℕ) (w : Path) → takes (turned q e) l s w ≡ Part (takes e q) q l s w → takes (turned q v) l s w ≡ Part (takes v q) q l s w → (b : Bool) → takes (handed_two b t i c n x f (origin e q) a o (turned q e) (turned q v)) l s w ≡ Part (takes (two a o e v) q) q l s w
  two_part known keeps a o e v q l not_c not_n r s w first second false =
      (λ j. first j || second j) ∙ and_over (takes e q s (cut (origin_of_name s q) w)) (takes v q s (cut (origin_of_name s q) w)) (is_builder_path (origin_of_name s l) w)
  two_part known keeps a o e v q l not_c not_n r s w first second true =
      (λ j. takes (turned q e) l s w || rest_taken known keeps q l r v not_c not_n (origin (turned q e) l) (origin_of_name i ((c.sym.0, origin (turned q e) l) ∷ l)) (origin (turned q v) ((n.sym.0, origin_of_name i ((c.sym.0, origin (turned q e) l) ∷ l)) ∷ (c.sym.0, origin (turned q e) l) ∷ l)) s w j)
      ∙ (λ j. first j || second j) ∙ and_over (takes e q s (cut (origin_of_name s q) w)) (takes v q s (cut (origin_of_name s q) w)) (is_builder_path (origin_of_name s l) w)

  -- behind a binder
  bound_part : (z s : ℕ) (w : Path) (o u : Origin) (T : Taken) (q l : Named Origin) (y : Bool) → (z ≢ s → y ≡ (T s (cut (origin_of_name s ((z, o) ∷ q)) w) && is_builder_path (origin_of_name s ((z, u) ∷ l)) w)) → (if z == s then false else y) ≡ (without z T s (cut (origin_of_name s q) w) && is_builder_path (origin_of_name s l) w)
  bound_part z s w o u T q l y h = by (cases_eq z s)
    where
      by : (z ≡ s) ⊎ (z ≢ s) → (if z == s then false else y) ≡ ((if z == s then false else T s (cut (origin_of_name s q) w)) && is_builder_path (origin_of_name s l) w)
      by (inl e) = rw (eq-eqb z s e) refl
      by (inr ne) =
          rw (ne_eqb z s ne)
          (h ne
          ∙ (λ j. T s (cut (known_origin (look_past s z o q (λ e. ne (sym e)) j)) w) && is_builder_path (known_origin (look_past s z u l (λ e. ne (sym e)) j)) w))

  mutual
    -- a handed body takes what the body takes, cut off at the list's builder
    pub handed_takes : (known : Known) → Keeps f (in_body c n x start around) → (e : ExprTree) (q l : Named Origin) → Binds Clears e → (IsFree e c.sym.0 → ⊥) → (IsFree e n.sym.0 → ⊥) → IsClear q e → These q l → (s : ℕ) (w : Path) → takes (turned q e) l s w ≡ Part (takes e q) q l s w
    handed_takes known keeps (leaf a (int kind y)) q l b not_c not_n clear r s w = refl
    handed_takes known keeps (leaf a (truth y)) q l b not_c not_n clear r s w = refl
    handed_takes known keeps (leaf a (chars y)) q l b not_c not_n clear r s w = refl
    handed_takes known keeps (leaf a (name y)) q l b not_c not_n clear r s w = chain_part q l r (y, []) tt s w false false
    handed_takes known keeps (leaf a (fresh y)) q l b not_c not_n clear r s w = refl
    handed_takes known keeps (one a o e) q l b not_c not_n clear r s w =
        (λ j. chain_takes (chain_of_one o (same_chain q e j)) l s w (takes (turned q e) l s w))
        ∙ one_part q l r a o e clear s w (handed_takes known keeps e q l b not_c not_n clear.0 r s w) (chain_of_one o (chain_of e)) refl
    handed_takes known keeps (two a o e v) q l b not_c not_n clear r s w =
        two_part known keeps a o e v q l (λ k. not_c (inr k)) (λ k. not_n (inr k)) r s w
        (handed_takes known keeps e q l b.0 (λ k. not_c (inl k)) (λ k. not_n (inl k)) clear.0 r s w)
        (handed_takes known keeps v q l b.1 (λ k. not_c (inr k)) (λ k. not_n (inr k)) clear.1 r s w) (is_merge o && is_held (origin e q))
    handed_takes known keeps (three a o d e g) q l b not_c not_n clear r s w =
        let first = handed_takes known keeps d q l b.0 (λ k. not_c (inl k)) (λ k. not_n (inl k)) clear.0 r s w in
        let second = handed_takes known keeps e q l b.1 (λ k. not_c (inr (inl k))) (λ k. not_n (inr (inl k))) clear.1 r s w in
        let third = handed_takes known keeps g q l b.2 (λ k. not_c (inr (inr k))) (λ k. not_n (inr (inr k))) clear.2 r s w in
        (λ j. first j || (second j || third j))
        ∙ ap (λ y. Part (takes d q) q l s w || y) (and_over (takes e q s (cut (origin_of_name s q) w)) (takes g q s (cut (origin_of_name s q) w)) (is_builder_path (origin_of_name s l) w))
        ∙ and_over (takes d q s (cut (origin_of_name s q) w)) (takes e q s (cut (origin_of_name s q) w) || takes g q s (cut (origin_of_name s q) w)) (is_builder_path (origin_of_name s l) w)
    handed_takes known keeps (many a o es) q l b not_c not_n clear r s w = all_handed_take known keeps es q l b not_c not_n clear r s w
    handed_takes known keeps (let_in a z v g) q l b not_c not_n clear r s w =
        let from = from_there t i c n x f start around known v q l b.1 (λ k. not_c (inl k)) (λ k. not_n (inl k)) clear.0 r in
        let inner = names_bind t i c n x f start around z.sym.0 (origin v q) (origin v q) q q l b.0 from.0 r in
        let first = handed_takes known keeps v q l b.1 (λ k. not_c (inl k)) (λ k. not_n (inl k)) clear.0 r s w in
        let second = handed_takes known keeps g ((z.sym.0, origin v q) ∷ q) ((z.sym.0, handed_origin start (origin v q) (origin v q)) ∷ l) b.2 (λ k. not_c (inr (k, λ e. b.0.0 (sym e)))) (λ k. not_n (inr (k, λ e. b.0.1 (sym e)))) clear.1 inner s w in
        (λ j. first j || (if z.sym.0 == s then false else takes (turned ((z.sym.0, origin v q) ∷ q) g) ((z.sym.0, from.1 j) ∷ l) s w))
        ∙ ap (λ y. Part (takes v q) q l s w || y) (bound_part z.sym.0 s w (origin v q) (handed_origin start (origin v q) (origin v q)) (takes g ((z.sym.0, origin v q) ∷ q)) q l _ (λ ne. second))
        ∙ and_over (takes v q s (cut (origin_of_name s q) w)) (without z.sym.0 (takes g ((z.sym.0, origin v q) ∷ q)) s (cut (origin_of_name s q) w)) (is_builder_path (origin_of_name s l) w)
    handed_takes known keeps (loop a ls e m y u g) q l b not_c not_n clear r s w =
        let first = legs_handed_take known keeps ls q l b.3 (λ k. not_c (inl k)) (λ k. not_n (inl k)) clear.0 r s w in
        let second = handed_takes known keeps e q l b.4 (λ k. not_c (inr (inl k))) (λ k. not_n (inr (inl k))) clear.1 r s w in
        (λ j. first j || second j) ∙ and_over (legs_take ls q s (cut (origin_of_name s q) w)) (takes e q s (cut (origin_of_name s q) w)) (is_builder_path (origin_of_name s l) w)
    handed_takes known keeps (iterate a e m g) q l b not_c not_n clear r s w =
        handed_takes known keeps e q l b.1 (λ k. not_c (inl k)) (λ k. not_n (inl k)) clear r s w

    pub all_handed_take : (known : Known) → Keeps f (in_body c n x start around) → (es : ExprTrees) (q l : Named Origin) → AllBind Clears es → (AreFree es c.sym.0 → ⊥) → (AreFree es n.sym.0 → ⊥) → AllClear q es → These q l → (s : ℕ) (w : Path) → some_take (all_handed t i c n x f q es) l s w ≡ Part (some_take es q) q l s w
    all_handed_take known keeps no_exprs q l b not_c not_n clear r s w = refl
    all_handed_take known keeps (more_exprs e es) q l b not_c not_n clear r s w =
        let first = handed_takes known keeps e q l b.0 (λ k. not_c (inl k)) (λ k. not_n (inl k)) clear.0 r s w in
        let second = all_handed_take known keeps es q l b.1 (λ k. not_c (inr k)) (λ k. not_n (inr k)) clear.1 r s w in
        (λ j. first j || second j) ∙ and_over (takes e q s (cut (origin_of_name s q) w)) (some_take es q s (cut (origin_of_name s q) w)) (is_builder_path (origin_of_name s l) w)

    pub leg_handed_takes : (known : Known) → Keeps f (in_body c n x start around) → (m : LegTree) (q l : Named Origin) → LegBinds Clears m → (LegIsFree m c.sym.0 → ⊥) → (LegIsFree m n.sym.0 → ⊥) → LegClear q m → These q l → (s : ℕ) (w : Path) → leg_takes (leg_handed t i c n x f q m) l s w ≡ Part (leg_takes m q) q l s w
    leg_handed_takes known keeps (whole e) q l b not_c not_n clear r s w = handed_takes known keeps e q l b not_c not_n clear r s w
    leg_handed_takes known keeps (strided e g j u) q l b not_c not_n clear r s w =
        let first = handed_takes known keeps e q l b.0 (λ k. not_c (inl k)) (λ k. not_n (inl k)) clear.0 r s w in
        let second = handed_takes known keeps g q l b.1 (λ k. not_c (inr (inl k))) (λ k. not_n (inr (inl k))) clear.1 r s w in
        let third = handed_takes known keeps j q l b.2 (λ k. not_c (inr (inr (inl k)))) (λ k. not_n (inr (inr (inl k)))) clear.2 r s w in
        let fourth = handed_takes known keeps u q l b.3 (λ k. not_c (inr (inr (inr k)))) (λ k. not_n (inr (inr (inr k)))) clear.3 r s w in
        let v = cut (origin_of_name s q) w in
        let p = is_builder_path (origin_of_name s l) w in
        (λ y. first y || (second y || (third y || fourth y)))
        ∙ ap (λ y. Part (takes e q) q l s w || (Part (takes g q) q l s w || y)) (and_over (takes j q s v) (takes u q s v) p)
        ∙ ap (λ y. Part (takes e q) q l s w || y) (and_over (takes g q s v) (takes j q s v || takes u q s v) p)
        ∙ and_over (takes e q s v) (takes g q s v || (takes j q s v || takes u q s v)) p

    pub legs_handed_take : (known : Known) → Keeps f (in_body c n x start around) → (ls : LegTrees) (q l : Named Origin) → LegsBind Clears ls → (LegsAreFree ls c.sym.0 → ⊥) → (LegsAreFree ls n.sym.0 → ⊥) → LegsClear q ls → These q l → (s : ℕ) (w : Path) → legs_take (legs_handed t i c n x f q ls) l s w ≡ Part (legs_take ls q) q l s w
    legs_handed_take known keeps no_legs q l b not_c not_n clear r s w = refl
    legs_handed_take known keeps (more_legs m ls) q l b not_c not_n clear r s w =
        let first = leg_handed_takes known keeps m q l b.0 (λ k. not_c (inl k)) (λ k. not_n (inl k)) clear.0 r s w in
        let second = legs_handed_take known keeps ls q l b.1 (λ k. not_c (inr k)) (λ k. not_n (inr k)) clear.1 r s w in
        (λ j. first j || second j) ∙ and_over (leg_takes m q s (cut (origin_of_name s q) w)) (legs_take ls q s (cut (origin_of_name s q) w)) (is_builder_path (origin_of_name s l) w)
