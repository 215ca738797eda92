-- A handed body splits: its parts take apart from each other, and each builder of a binder is taken in its body.
use Rattle.std.proofs.Common.{◌≡◌, ◌≢◌, ◌⊎◌, inl, inr, ℕ, ◌==◌, Bool, true, false, ◌&&◌, ◌||◌, if◌then◌else◌, [], ◌∷◌, Option, Some, None, refl, ap, sym, subst, ◌∙◌, eq-eqb, ne_eqb, eqb-true}
use Rattle.std.proofs.lemmas.Bool.{cases_eq}
use Rattle.weld_tree.specs.declared.binder.Binder.{Binder}
use Rattle.weld_tree.specs.TypeTree.{TypeTree}
use Rattle.weld_tree.specs.ExprTree.{At, ExprTree, leaf, one, two, three, many, let_in, loop, iterate, ExprTrees, no_exprs, more_exprs, LegTree, whole, strided, LegTrees, no_legs, more_legs, One, neg, not, cast, len, field, finish, started, Two, binary, and, or, look_up, key_exists, merge, Three, if_else, select, slice}
use Rattle.weld_meaning.specs.Environment.{Named, look_for}
use Rattle.weld_meaning.specs.Origin.{Path, Origin, value, field_origin, is_value, known_origin, origin_of_name, origin, own_paths, in_body}
use Rattle.weld_meaning.specs.Linear.{Keeps, AllKeep, LegKeeps, LegsKeep}
use Rattle.weld_meaning.specs.Available.{is_builder_path, is_below, chain_of, chain_takes, takes, some_take, leg_takes, legs_take, Taken, Apart, Alike as TakeAlike, TakesNone, TakesAll, without, ChainSplits, OneSplits, TwoSplits, ThreeSplits, Splits, AllSplit, LegSplits, LegsSplit}
use Rattle.weld_meaning.specs.Names.{IsFree, AreFree, LegIsFree, LegsAreFree, AgreeOn, Binds, AllBind, LegBinds, LegsBind}
use Rattle.weld_meaning.proofs.FreeNames.{splits_free, taken_free}
use Rattle.weld_rewriting.proofs.Forms.{no_builder_path}
use Rattle.weld_substitution.proofs.Bindings.{agree_over, agree_after}
use Rattle.weld_substitution.proofs.Chains.{taken_named}
use Rattle.weld_substitution.proofs.Following.{and_true, both_true, or_right}
use Rattle.weld_substitution.proofs.Gaining.{without_is}
use Rattle.weld_vertical.specs.Sinking.{is_merge}
use Rattle.weld_handing.specs.Handing.{is_held, handed_two, handed, all_handed, leg_handed, legs_handed}
use Rattle.weld_handing.proofs.Traces.{handed_origin, handed_none, field_handed}
use Rattle.weld_handing.proofs.Answering.{IsClear, AllClear, LegClear, LegsClear, Consumes, Aside, Names, names_bind, builder_not_free, count_not_free, value_past}
use Rattle.weld_handing.proofs.Keeping.{stays_value, held_is_own, from_there, consumer_agrees, body_same, turn_same}
use Rattle.weld_handing.proofs.Cutting.{cut, cut_builds}
use Rattle.weld_handing.proofs.Taking.{Part, look_past, same_chain, Rest, rest_taken, body_taken, handed_takes, all_handed_take, leg_handed_takes, legs_handed_take}

module _ (t : TypeTree) (i : ℕ) (c n x : Binder) (f : ExprTree) (start : Origin) (around : Named Origin) where
  abbrev Clears : ℕ → Type 0
  Clears = Aside t i c n x f start around

  abbrev These : Named Origin → Named Origin → Type 0
  These q l = Names t i c n x f start around q q l

  abbrev turned : Named Origin → ExprTree → ExprTree
  turned q e = handed t i c n x f q e

  -- what is known of the other loop and its body
  pub record Body : Type 0 where
    pub consumes : Consumes t i c n x f start around
    pub keeps : Keeps f (in_body c n x start around)
    pub splits : Splits f (in_body c n x start around)
    pub all : TakesAll c.sym.0 (own_paths start) (takes f (in_body c n x start around))

  -- ---- what is taken in parts

  abbrev IsPart : Taken → Taken → Named Origin → Named Origin → Type 0
  IsPart small T q l = (s : ℕ) (w : Path) → small s w ≡ Part t i c n x f start around T q l s w

  part_taken : (small T : Taken) (q l : Named Origin) → IsPart small T q l → (s : ℕ) (w : Path) → small s w ≡ true → T s (cut (origin_of_name s q) w) ≡ true
  part_taken small T q l p s w e = (and_true (T s (cut (origin_of_name s q) w)) (is_builder_path (origin_of_name s l) w) (sym (p s w) ∙ e)).0

  apart_part : (small less T U : Taken) (q l : Named Origin) → IsPart small T q l → IsPart less U q l → Apart T U → Apart small less
  apart_part small less T U q l p r a = record { apart = λ s w e g. a.apart s (cut (origin_of_name s q) w) (part_taken small T q l p s w e) (part_taken less U q l r s w g) }

  alike_part : (small less T U : Taken) (q l : Named Origin) → IsPart small T q l → IsPart less U q l → TakeAlike T U → TakeAlike small less
  alike_part small less T U q l p r a = record { alike = λ s w. p s w ∙ ap (λ y. y && is_builder_path (origin_of_name s l) w) (a.alike s (cut (origin_of_name s q) w)) ∙ sym (r s w) }

  none_part : (small T : Taken) (q l : Named Origin) → IsPart small T q l → TakesNone T → TakesNone small
  none_part small T q l p a = record { none = λ s w. p s w ∙ ap (λ y. y && is_builder_path (origin_of_name s l) w) (a.none s (cut (origin_of_name s q) w)) }

  without_part : (z : ℕ) (o u : Origin) (small T : Taken) (q l : Named Origin) → IsPart small T ((z, o) ∷ q) ((z, u) ∷ l) → IsPart (without z small) (without z T) q l
  without_part z o u small T q l p s w = by (cases_eq z s)
    where
      by : (z ≡ s) ⊎ (z ≢ s) → (if z == s then false else small s w) ≡ ((if z == s then false else T s (cut (origin_of_name s q) w)) && is_builder_path (origin_of_name s l) w)
      by (inl e) = rw (eq-eqb z s e) refl
      by (inr ne) =
          rw (ne_eqb z s ne)
          (p s w
          ∙ (λ j. T s (cut (known_origin (look_past t i c n x f start around s z o q (λ e. ne (sym e)) j)) w) && is_builder_path (known_origin (look_past t i c n x f start around s z u l (λ e. ne (sym e)) j)) w))

  -- each builder of a binder is taken
  all_part : (z : ℕ) (o : Origin) (small T : Taken) (q l : Named Origin) → IsPart small T ((z, o) ∷ q) ((z, handed_origin start o o) ∷ l) → TakesAll z o T → TakesAll z (handed_origin start o o) small
  all_part z o small T q l p a = record { all = λ w e. p z w ∙ both_true (T z (cut (origin_of_name z ((z, o) ∷ q)) w)) (is_builder_path (origin_of_name z ((z, handed_origin start o o) ∷ l)) w) (taken w e) (subst (λ m. is_builder_path (known_origin m) w ≡ true) (sym (first z (handed_origin start o o) l)) e) }
    where
      first : {A : Type 0} (z : ℕ) (y : A) (g : Named A) → look_for z ((z, y) ∷ g) ≡ Some y
      first z y g = rw (eq-eqb z z refl) refl

      taken : (w : Path) → is_builder_path (handed_origin start o o) w ≡ true → T z (cut (origin_of_name z ((z, o) ∷ q)) w) ≡ true
      taken w e = subst (λ m. T z (cut (known_origin m) w) ≡ true) (sym (first z o q)) (a.all (cut o w) (cut_builds start o w e))

  -- ---- nodes

  chain_splits : (known : Body) (m : ℕ) (e : ExprTree) (q l : Named Origin) → Binds Clears e → (IsFree e c.sym.0 → ⊥) → (IsFree e n.sym.0 → ⊥) → IsClear q e → is_held (origin e q) ≡ false → These q l → (d : Option (ℕ × Path)) → ChainSplits d (field_origin m (origin e q)) → ChainSplits d (field_origin m (origin (turned q e) l))
  chain_splits known m e q l w not_c not_n clear unheld r (Some d) h = tt
  chain_splits known m e q l w not_c not_n clear unheld r None h =
      let from = from_there t i c n x f start around known.consumes e q l w not_c not_n clear r in
      let there = ap (field_origin m) from.1 ∙ field_handed start known.consumes.builds m (origin e q) (origin e q) unheld from.0 ∙ stays_value start (field_origin m (origin e q)) h in
      ap is_value there

  one_splits : (known : Body) (o : One) (a : At) (e : ExprTree) (q l : Named Origin) → Binds Clears e → (IsFree e c.sym.0 → ⊥) → (IsFree e n.sym.0 → ⊥) → IsClear q (one a o e) → These q l → OneSplits o e (origin e q) → OneSplits o (turned q e) (origin (turned q e) l)
  one_splits known neg a e q l w not_c not_n clear r h = tt
  one_splits known not a e q l w not_c not_n clear r h = tt
  one_splits known (cast k) a e q l w not_c not_n clear r h = tt
  one_splits known len a e q l w not_c not_n clear r h = tt
  one_splits known (field m) a e q l w not_c not_n clear r h =
      subst (λ d. ChainSplits d (field_origin m (origin (turned q e) l))) (sym (same_chain t i c n x f start around q e))
      (chain_splits known m e q l w not_c not_n clear.0 clear.1 r (chain_of e) h)
  one_splits known finish a e q l w not_c not_n clear r h = tt
  one_splits known (started b) a e q l w not_c not_n clear r h = tt

  two_splits : (o : Two) (small T : Taken) (q l : Named Origin) → IsPart small T q l → TwoSplits o T → TwoSplits o small
  two_splits (binary op) small T q l p h = tt
  two_splits and small T q l p h = none_part small T q l p h
  two_splits or small T q l p h = none_part small T q l p h
  two_splits look_up small T q l p h = tt
  two_splits key_exists small T q l p h = tt
  two_splits merge small T q l p h = tt

  three_splits : (o : Three) (small less T U : Taken) (q l : Named Origin) → IsPart small T q l → IsPart less U q l → ThreeSplits o T U → ThreeSplits o small less
  three_splits if_else small less T U q l p r h = alike_part small less T U q l p r h
  three_splits select small less T U q l p r h = apart_part small less T U q l p r h
  three_splits slice small less T U q l p r h = apart_part small less T U q l p r h

  -- ---- the merge

  no_value_path : (o : Origin) → o ≡ value → (w : Path) → is_builder_path o w ≡ true → ⊥
  no_value_path o e w h = let both : false ≡ true = sym (no_builder_path w) ∙ ap (λ g. is_builder_path g w) (sym e) ∙ h in let nothing : ⊥ = cc in absurd nothing

  -- the value that is merged, and the other loop's body with its builder, its row number and its row
  module _ (known : Body) (q l : Named Origin) (r : These q l) (v : ExprTree) (not_c : IsFree v c.sym.0 → ⊥) (not_n : IsFree v n.sym.0 → ⊥) (o u k : Origin) (is_own : o ≡ own_paths start) (is_count : u ≡ value) (is_item : k ≡ value) where
    abbrev with_builder : Named Origin
    with_builder = (c.sym.0, o) ∷ l

    abbrev with_count : Named Origin
    with_count = (n.sym.0, u) ∷ with_builder

    abbrev with_item : Named Origin
    with_item = (x.sym.0, k) ∷ with_count

    abbrev value_takes : Taken
    value_takes = takes (turned q v) with_count

    abbrev body_takes : Taken
    body_takes = takes f with_item

    agrees : AgreeOn (IsFree f) (in_body c n x start around) with_item
    agrees = subst (λ y. AgreeOn (IsFree f) (in_body c n x start around) ((x.sym.0, y) ∷ (n.sym.0, u) ∷ (c.sym.0, o) ∷ l)) (sym is_item) (subst (λ y. AgreeOn (IsFree f) (in_body c n x start around) ((x.sym.0, value) ∷ (n.sym.0, y) ∷ (c.sym.0, o) ∷ l)) (sym is_count) (subst (λ y. AgreeOn (IsFree f) (in_body c n x start around) ((x.sym.0, value) ∷ (n.sym.0, value) ∷ (c.sym.0, y) ∷ l)) (sym is_own) (consumer_agrees t i c n x f start around l r.behind)))

    value_agrees : AgreeOn (IsFree (turned q v)) l with_count
    value_agrees =
        agree_after (IsFree (turned q v)) l with_builder with_count (agree_over (IsFree (turned q v)) c.sym.0 o l (builder_not_free t i c n x f start around known.consumes q v not_c))
        (agree_over (IsFree (turned q v)) n.sym.0 u with_builder (count_not_free t i c n x f start around known.consumes q v not_n))

    -- the value takes nothing of what the other's body takes
    item_apart : Apart value_takes (without x.sym.0 body_takes)
    item_apart = record { apart = λ s w e h. by s w e (without_is x.sym.0 s w body_takes h) (cases_eq c.sym.0 s) }
      where
        by : (s : ℕ) (w : Path) → value_takes s w ≡ true → (x.sym.0 ≢ s) × (body_takes s w ≡ true) → (c.sym.0 ≡ s) ⊎ (c.sym.0 ≢ s) → ⊥
        by s w e h (inl y) = builder_not_free t i c n x f start around known.consumes q v not_c (subst (IsFree (turned q v)) (sym y) (taken_named (turned q v) with_count s w e))
        by s w e h (inr ne) = last (cases_eq n.sym.0 s)
          where
            last : (n.sym.0 ≡ s) ⊎ (n.sym.0 ≢ s) → ⊥
            last (inl y) = count_not_free t i c n x f start around known.consumes q v not_n (subst (IsFree (turned q v)) (sym y) (taken_named (turned q v) with_count s w e))
            last (inr other) = body_taken t i c n x f start around known.consumes known.keeps q l r v not_c not_n o u k s w ne other h.0 h.1

    item_all : TakesAll x.sym.0 k body_takes
    item_all = record { all = λ w e. absurd (no_value_path k is_item w e) }

    count_all : TakesAll n.sym.0 u (λ s w. value_takes s w || without x.sym.0 body_takes s w)
    count_all = record { all = λ w e. absurd (no_value_path u is_count w e) }

    count_apart : (T : Taken) → Apart (λ s w. chain_takes (Some (i, [])) with_builder s w false) T
    count_apart T = record { apart = λ s w e h. by s w e }
      where
        by : (s : ℕ) (w : Path) → chain_takes (Some (i, [])) with_builder s w false ≡ true → ⊥
        by s w e =
            let y = and_true (i == s) (is_below [] w && is_builder_path (origin_of_name s with_builder) w) e in
            let z = and_true (is_below [] w) (is_builder_path (origin_of_name s with_builder) w) y.1 in
            let is = eqb-true i s y.0 in
            let from : origin_of_name i with_builder ≡ value = ap known_origin (look_past t i c n x f start around i c.sym.0 o l (λ g. known.consumes.builder_number (sym g))) ∙ r.number in
            no_value_path (origin_of_name s with_builder) (subst (λ g. origin_of_name g with_builder ≡ value) is from) w z.1

    builder_all : TakesAll c.sym.0 o (λ s w. chain_takes (Some (i, [])) with_builder s w false || without n.sym.0 (λ y z. value_takes y z || without x.sym.0 body_takes y z) s w)
    builder_all = record { all = λ w e. or_right (chain_takes (Some (i, [])) with_builder c.sym.0 w false) _ (past n.sym.0 c.sym.0 _ (λ y. known.consumes.builder_count (sym y)) ∙ or_right (value_takes c.sym.0 w) (without x.sym.0 body_takes c.sym.0 w) (past x.sym.0 c.sym.0 _ (λ y. known.consumes.builder_row (sym y)) ∙ ap (λ (T : Taken). T c.sym.0 w) (sym (taken_free f (in_body c n x start around) with_item agrees)) ∙ known.all.all w (ap (λ g. is_builder_path g w) (sym is_own) ∙ e))) }
      where
        past : (z s : ℕ) (y : Bool) → z ≢ s → (if z == s then false else y) ≡ y
        past z s y ne = rw (ne_eqb z s ne) refl

    body_splits : Splits f with_item
    body_splits = splits_free f (in_body c n x start around) with_item agrees known.splits

    value_splits : Splits (turned q v) l → Splits (turned q v) with_count
    value_splits h = splits_free (turned q v) l with_count value_agrees h

  merge_splits : (known : Body) (a : At) (o : Two) (e v : ExprTree) (q l : Named Origin) → Binds Clears e → Binds Clears v → (IsFree e c.sym.0 → ⊥) → (IsFree e n.sym.0 → ⊥) → (IsFree v c.sym.0 → ⊥) → (IsFree v n.sym.0 → ⊥) → IsClear q e → IsClear q v → These q l → Splits (turned q e) l → Splits (turned q v) l → Apart (takes (turned q e) l) (takes (turned q v) l) → TwoSplits o (takes (turned q v) l) → (b : Bool) → (is_merge o && is_held (origin e q)) ≡ b → (b ≡ true → is_value (origin v q) ≡ true) → Splits (handed_two b t i c n x f (origin e q) a o (turned q e) (turned q v)) l
  merge_splits known a o e v q l w y no_c no_n not_c not_n clear clears r first second apart last false h is_item = (first, second, apart, last)
  merge_splits known a o e v q l w y no_c no_n not_c not_n clear clears r first second apart last true h is_item = (
    first,
    (
      tt,
      (
        value_splits known q l r v not_c not_n from count item own_is count_is item_is second,
        body_splits known q l r v not_c not_n from count item own_is count_is item_is,
        item_apart known q l r v not_c not_n from count item own_is count_is item_is,
        item_all known q l r v not_c not_n from count item own_is count_is item_is,
      ),
      count_apart known q l r v not_c not_n from count item own_is count_is item_is _,
      count_all known q l r v not_c not_n from count item own_is count_is item_is,
    ),
    record { apart = rest_apart },
    builder_all known q l r v not_c not_n from count item own_is count_is item_is,
  )
    where
      from : Origin
      from = origin (turned q e) l

      count : Origin
      count = origin_of_name i ((c.sym.0, origin (turned q e) l) ∷ l)

      item : Origin
      item = origin (turned q v) ((n.sym.0, origin_of_name i ((c.sym.0, origin (turned q e) l) ∷ l)) ∷ (c.sym.0, origin (turned q e) l) ∷ l)

      both_of : (d g : Bool) → (d && g) ≡ true → g ≡ true
      both_of true g k = k
      both_of false g k = let nothing : ⊥ = cc in absurd nothing

      own_is : origin (turned q e) l ≡ own_paths start
      own_is =
          let it = from_there t i c n x f start around known.consumes e q l w no_c no_n clear r in
          it.1 ∙ held_is_own start (origin e q) (both_of (is_merge o) (is_held (origin e q)) h) it.0

      count_is : origin_of_name i ((c.sym.0, origin (turned q e) l) ∷ l) ≡ value
      count_is = ap known_origin (look_past t i c n x f start around i c.sym.0 (origin (turned q e) l) l (λ g. known.consumes.builder_number (sym g))) ∙ r.number

      item_is : origin (turned q v) ((n.sym.0, origin_of_name i ((c.sym.0, origin (turned q e) l) ∷ l)) ∷ (c.sym.0, origin (turned q e) l) ∷ l) ≡ value
      item_is =
          value_past t i c n x f start around known.consumes q v not_c not_n (origin_of_name i ((c.sym.0, origin (turned q e) l) ∷ l)) (origin (turned q e) l) l
          ∙ (from_there t i c n x f start around known.consumes v q l y not_c not_n clears r).1 ∙ stays_value start (origin v q) (is_item refl)

      rest_apart : (s : ℕ) (w : Path) → takes (turned q e) l s w ≡ true → Rest t i c n x f start around known.consumes known.keeps q l r v not_c not_n (origin (turned q e) l) (origin_of_name i ((c.sym.0, origin (turned q e) l) ∷ l)) (origin (turned q v) ((n.sym.0, origin_of_name i ((c.sym.0, origin (turned q e) l) ∷ l)) ∷ (c.sym.0, origin (turned q e) l) ∷ l)) s w ≡ true → ⊥
      rest_apart s w g k =
          apart.apart s w g
          (sym (rest_taken t i c n x f start around known.consumes known.keeps q l r v not_c not_n (origin (turned q e) l) (origin_of_name i ((c.sym.0, origin (turned q e) l) ∷ l)) (origin (turned q v) ((n.sym.0, origin_of_name i ((c.sym.0, origin (turned q e) l) ∷ l)) ∷ (c.sym.0, origin (turned q e) l) ∷ l)) s w)
          ∙ k)

  -- ---- all nodes

  part : (known : Body) (e : ExprTree) (q l : Named Origin) → Binds Clears e → (IsFree e c.sym.0 → ⊥) → (IsFree e n.sym.0 → ⊥) → IsClear q e → These q l → IsPart (takes (turned q e) l) (takes e q) q l
  part known e q l w not_c not_n clear r s y = handed_takes t i c n x f start around known.consumes known.keeps e q l w not_c not_n clear r s y

  leg_part : (known : Body) (m : LegTree) (q l : Named Origin) → LegBinds Clears m → (LegIsFree m c.sym.0 → ⊥) → (LegIsFree m n.sym.0 → ⊥) → LegClear q m → These q l → IsPart (leg_takes (leg_handed t i c n x f q m) l) (leg_takes m q) q l
  leg_part known m q l w not_c not_n clear r s y = leg_handed_takes t i c n x f start around known.consumes known.keeps m q l w not_c not_n clear r s y

  legs_part : (known : Body) (ls : LegTrees) (q l : Named Origin) → LegsBind Clears ls → (LegsAreFree ls c.sym.0 → ⊥) → (LegsAreFree ls n.sym.0 → ⊥) → LegsClear q ls → These q l → IsPart (legs_take (legs_handed t i c n x f q ls) l) (legs_take ls q) q l
  legs_part known ls q l w not_c not_n clear r s y = legs_handed_take t i c n x f start around known.consumes known.keeps ls q l w not_c not_n clear r s y

  parts : (known : Body) (es : ExprTrees) (q l : Named Origin) → AllBind Clears es → (AreFree es c.sym.0 → ⊥) → (AreFree es n.sym.0 → ⊥) → AllClear q es → These q l → IsPart (some_take (all_handed t i c n x f q es) l) (some_take es q) q l
  parts known es q l w not_c not_n clear r s y = all_handed_take t i c n x f start around known.consumes known.keeps es q l w not_c not_n clear r s y

  mutual
    -- a handed body splits where the body does and the other loop's does in its place
    pub handed_splits : (known : Body) (e : ExprTree) (q l : Named Origin) → Binds Clears e → (IsFree e c.sym.0 → ⊥) → (IsFree e n.sym.0 → ⊥) → IsClear q e → These q l → Keeps e q → Splits e q → Splits (turned q e) l
    handed_splits known (leaf a y) q l w not_c not_n clear r k h = tt
    handed_splits known (one a o e) q l w not_c not_n clear r k h =
        (handed_splits known e q l w not_c not_n clear.0 r k.0 h.0, one_splits known o a e q l w not_c not_n clear r h.1)
    handed_splits known (two a o e v) q l w not_c not_n clear r k h =
        let here = part known e q l w.0 (λ y. not_c (inl y)) (λ y. not_n (inl y)) clear.0 r in
        let there = part known v q l w.1 (λ y. not_c (inr y)) (λ y. not_n (inr y)) clear.1 r in
        merge_splits known a o e v q l w.0 w.1 (λ y. not_c (inl y)) (λ y. not_n (inl y)) (λ y. not_c (inr y)) (λ y. not_n (inr y)) clear.0 clear.1 r
        (handed_splits known e q l w.0 (λ y. not_c (inl y)) (λ y. not_n (inl y)) clear.0 r k.0 h.0)
        (handed_splits known v q l w.1 (λ y. not_c (inr y)) (λ y. not_n (inr y)) clear.1 r k.1 h.1)
        (apart_part (takes (turned q e) l) (takes (turned q v) l) (takes e q) (takes v q) q l here there h.2)
        (two_splits o (takes (turned q v) l) (takes v q) q l there h.3) (is_merge o && is_held (origin e q)) refl clear.2
    handed_splits known (three a o d e g) q l w not_c not_n clear r k h =
        let on_d = part known d q l w.0 (λ y. not_c (inl y)) (λ y. not_n (inl y)) clear.0 r in
        let on_e = part known e q l w.1 (λ y. not_c (inr (inl y))) (λ y. not_n (inr (inl y))) clear.1 r in
        let on_g = part known g q l w.2 (λ y. not_c (inr (inr y))) (λ y. not_n (inr (inr y))) clear.2 r in (
          handed_splits known d q l w.0 (λ y. not_c (inl y)) (λ y. not_n (inl y)) clear.0 r k.0 h.0,
          handed_splits known e q l w.1 (λ y. not_c (inr (inl y))) (λ y. not_n (inr (inl y))) clear.1 r k.1 h.1,
          handed_splits known g q l w.2 (λ y. not_c (inr (inr y))) (λ y. not_n (inr (inr y))) clear.2 r k.2 h.2,
          apart_part (takes (turned q d) l) (takes (turned q e) l) (takes d q) (takes e q) q l on_d on_e h.3,
          apart_part (takes (turned q d) l) (takes (turned q g) l) (takes d q) (takes g q) q l on_d on_g h.4,
          three_splits o (takes (turned q e) l) (takes (turned q g) l) (takes e q) (takes g q) q l on_e on_g h.5,
        )
    handed_splits known (many a o es) q l w not_c not_n clear r k h = all_handed_split known es q l w not_c not_n clear r k h
    handed_splits known (let_in a z v g) q l w not_c not_n clear r k h =
        let from = from_there t i c n x f start around known.consumes v q l w.1 (λ y. not_c (inl y)) (λ y. not_n (inl y)) clear.0 r in
        let o = origin v q in
        let p = handed_origin start (origin v q) (origin v q) in
        let inner = names_bind t i c n x f start around z.sym.0 (origin v q) (origin v q) q q l w.0 from.0 r in
        let body = turned ((z.sym.0, origin v q) ∷ q) g in
        let free_c : IsFree g c.sym.0 → ⊥ = λ y. not_c (inr (y, λ e. w.0.0 (sym e))) in
        let free_n : IsFree g n.sym.0 → ⊥ = λ y. not_n (inr (y, λ e. w.0.1 (sym e))) in
        let here = part known v q l w.1 (λ y. not_c (inl y)) (λ y. not_n (inl y)) clear.0 r in
        let there = part known g ((z.sym.0, origin v q) ∷ q) ((z.sym.0, p) ∷ l) w.2 free_c free_n clear.1 inner in (
          handed_splits known v q l w.1 (λ y. not_c (inl y)) (λ y. not_n (inl y)) clear.0 r k.0 h.0,
          subst (λ u. Splits body ((z.sym.0, u) ∷ l)) (sym from.1) (handed_splits known g ((z.sym.0, origin v q) ∷ q) ((z.sym.0, p) ∷ l) w.2 free_c free_n clear.1 inner k.1 h.1),
          subst (λ u. Apart (takes (turned q v) l) (without z.sym.0 (takes body ((z.sym.0, u) ∷ l)))) (sym from.1)
              (apart_part (takes (turned q v) l) (without z.sym.0 (takes body ((z.sym.0, p) ∷ l))) (takes v q) (without z.sym.0 (takes g ((z.sym.0, origin v q) ∷ q))) q l here
              (without_part z.sym.0 (origin v q) p (takes body ((z.sym.0, p) ∷ l)) (takes g ((z.sym.0, origin v q) ∷ q)) q l there) h.2),
          subst (λ u. TakesAll z.sym.0 u (takes body ((z.sym.0, u) ∷ l))) (sym from.1)
              (all_part z.sym.0 (origin v q) (takes body ((z.sym.0, p) ∷ l)) (takes g ((z.sym.0, origin v q) ∷ q)) q l there h.3),
        )
    handed_splits known (loop a ls e b m y g) q l w not_c not_n clear r k h =
        let from = from_there t i c n x f start around known.consumes e q l w.4 (λ z. not_c (inr (inl z))) (λ z. not_n (inr (inl z))) clear.1 r in
        let same = from.1 ∙ handed_none start (origin e q) (origin e q) clear.2 in
        let agrees = body_same t i c n x f start around b m y g (origin e q) q l r k.2 in (
          legs_handed_split known ls q l w.3 (λ z. not_c (inl z)) (λ z. not_n (inl z)) clear.0 r k.0 h.0,
          handed_splits known e q l w.4 (λ z. not_c (inr (inl z))) (λ z. not_n (inr (inl z))) clear.1 r k.1 h.1,
          apart_part (legs_take (legs_handed t i c n x f q ls) l) (takes (turned q e) l) (legs_take ls q) (takes e q) q l
              (legs_part known ls q l w.3 (λ z. not_c (inl z)) (λ z. not_n (inl z)) clear.0 r) (part known e q l w.4 (λ z. not_c (inr (inl z))) (λ z. not_n (inr (inl z))) clear.1 r) h.2,
          subst (λ o. Splits g (in_body b m y o l)) (sym same) (splits_free g _ _ agrees h.3),
          subst (λ o. TakesAll b.sym.0 (own_paths o) (takes g (in_body b m y o l))) (sym same) (subst (λ T. TakesAll b.sym.0 (own_paths (origin e q)) T) (taken_free g _ _ agrees) h.4),
        )
    handed_splits known (iterate a e b g) q l w not_c not_n clear r k h =
        (handed_splits known e q l w.1 (λ y. not_c (inl y)) (λ y. not_n (inl y)) clear r k.0 h.0, splits_free g _ _ (turn_same t i c n x f start around b g q l r k.1) h.1)

    all_handed_split : (known : Body) (es : ExprTrees) (q l : Named Origin) → AllBind Clears es → (AreFree es c.sym.0 → ⊥) → (AreFree es n.sym.0 → ⊥) → AllClear q es → These q l → AllKeep es q → AllSplit es q → AllSplit (all_handed t i c n x f q es) l
    all_handed_split known no_exprs q l w not_c not_n clear r k h = tt
    all_handed_split known (more_exprs e es) q l w not_c not_n clear r k h = (
      handed_splits known e q l w.0 (λ y. not_c (inl y)) (λ y. not_n (inl y)) clear.0 r k.0 h.0,
      all_handed_split known es q l w.1 (λ y. not_c (inr y)) (λ y. not_n (inr y)) clear.1 r k.1 h.1,
      apart_part (takes (turned q e) l) (some_take (all_handed t i c n x f q es) l) (takes e q) (some_take es q) q l
          (part known e q l w.0 (λ y. not_c (inl y)) (λ y. not_n (inl y)) clear.0 r) (parts known es q l w.1 (λ y. not_c (inr y)) (λ y. not_n (inr y)) clear.1 r) h.2,
    )

    leg_handed_splits : (known : Body) (m : LegTree) (q l : Named Origin) → LegBinds Clears m → (LegIsFree m c.sym.0 → ⊥) → (LegIsFree m n.sym.0 → ⊥) → LegClear q m → These q l → LegKeeps m q → LegSplits m q → LegSplits (leg_handed t i c n x f q m) l
    leg_handed_splits known (whole e) q l w not_c not_n clear r k h = handed_splits known e q l w not_c not_n clear r k h
    leg_handed_splits known (strided e g j u) q l w not_c not_n clear r k h =
        let on_e = part known e q l w.0 (λ y. not_c (inl y)) (λ y. not_n (inl y)) clear.0 r in
        let on_g = part known g q l w.1 (λ y. not_c (inr (inl y))) (λ y. not_n (inr (inl y))) clear.1 r in
        let on_j = part known j q l w.2 (λ y. not_c (inr (inr (inl y)))) (λ y. not_n (inr (inr (inl y)))) clear.2 r in
        let on_u = part known u q l w.3 (λ y. not_c (inr (inr (inr y)))) (λ y. not_n (inr (inr (inr y)))) clear.3 r in (
          handed_splits known e q l w.0 (λ y. not_c (inl y)) (λ y. not_n (inl y)) clear.0 r k.0 h.0,
          handed_splits known g q l w.1 (λ y. not_c (inr (inl y))) (λ y. not_n (inr (inl y))) clear.1 r k.1 h.1,
          handed_splits known j q l w.2 (λ y. not_c (inr (inr (inl y)))) (λ y. not_n (inr (inr (inl y)))) clear.2 r k.2 h.2,
          handed_splits known u q l w.3 (λ y. not_c (inr (inr (inr y)))) (λ y. not_n (inr (inr (inr y)))) clear.3 r k.3 h.3,
          apart_part (takes (turned q e) l) (takes (turned q g) l) (takes e q) (takes g q) q l on_e on_g h.4,
          apart_part (takes (turned q e) l) (takes (turned q j) l) (takes e q) (takes j q) q l on_e on_j h.5,
          apart_part (takes (turned q e) l) (takes (turned q u) l) (takes e q) (takes u q) q l on_e on_u h.6,
          apart_part (takes (turned q g) l) (takes (turned q j) l) (takes g q) (takes j q) q l on_g on_j h.7,
          apart_part (takes (turned q g) l) (takes (turned q u) l) (takes g q) (takes u q) q l on_g on_u h.8,
          apart_part (takes (turned q j) l) (takes (turned q u) l) (takes j q) (takes u q) q l on_j on_u h.9,
        )

    legs_handed_split : (known : Body) (ls : LegTrees) (q l : Named Origin) → LegsBind Clears ls → (LegsAreFree ls c.sym.0 → ⊥) → (LegsAreFree ls n.sym.0 → ⊥) → LegsClear q ls → These q l → LegsKeep ls q → LegsSplit ls q → LegsSplit (legs_handed t i c n x f q ls) l
    legs_handed_split known no_legs q l w not_c not_n clear r k h = tt
    legs_handed_split known (more_legs m ls) q l w not_c not_n clear r k h = (
      leg_handed_splits known m q l w.0 (λ y. not_c (inl y)) (λ y. not_n (inl y)) clear.0 r k.0 h.0,
      legs_handed_split known ls q l w.1 (λ y. not_c (inr y)) (λ y. not_n (inr y)) clear.1 r k.1 h.1,
      apart_part (leg_takes (leg_handed t i c n x f q m) l) (legs_take (legs_handed t i c n x f q ls) l) (leg_takes m q) (legs_take ls q) q l
          (leg_part known m q l w.0 (λ y. not_c (inl y)) (λ y. not_n (inl y)) clear.0 r) (legs_part known ls q l w.1 (λ y. not_c (inr y)) (λ y. not_n (inr y)) clear.1 r) h.2,
    )
