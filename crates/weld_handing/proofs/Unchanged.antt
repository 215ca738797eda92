-- A body that merges into its list nowhere leaves it as it is; one that merges once, in every row, appends one value.
use Rattle.std.proofs.Common.{◌≡◌, ◌≢◌, ◌⊎◌, inl, inr, ℕ, zero, suc, ◌+◌, ◌≤◌, Bool, true, false, ◌&&◌, if◌then◌else◌, List, [], ◌∷◌, ◌++◌, Option, Some, None, refl, ap, sym, subst, ◌∙◌, arith, eq-eqb, ne_eqb}
use Rattle.std.proofs.lemmas.Bool.{cases_eq}
use Rattle.weld_data.specs.Value.{Value, Values}
use Rattle.weld_tree.specs.ExprTree.{ExprTree, leaf, one, two, three, many, let_in, loop, iterate, ExprTrees, no_exprs, more_exprs, int, truth, chars, name, fresh, One, neg, not, cast, len, field, finish, started, binary, and, or, look_up, key_exists, merge, if_else, select, slice, make_vec, make_struct}
use Rattle.weld_builders.specs.Outcome.{Outcome, done, fault, stuck, and_then, map_out}
use Rattle.weld_builders.specs.Part.{list_part, total_part, totals_part, cells_part, keyed_part, groups_part, merge_part}
use Rattle.weld_meaning.specs.Environment.{Named, look_for}
use Rattle.weld_meaning.specs.Thing.{Thing, plain, building, several, Things, no_things, more_things, as_value, as_values, struct_from, struct_of, thing_at, value_field, field_of}
use Rattle.weld_meaning.specs.Evaluation.{Env, found, truth_of, value_out, chosen, merged, one_thing, many_thing, eval, eval_all}
use Rattle.weld_meaning.specs.Origin.{Origin, value, made, own, outer, named, struct, Origins, no_origins, more_origins, origin_at, field_origin, are_values, struct_origin, known_origin, origin_of_name, one_origin, origin, origins}
use Rattle.weld_meaning.specs.Linear.{Keeps, AllKeep}
use Rattle.weld_vertical.specs.Sinking.{is_merge}
use Rattle.weld_handing.specs.Handing.{is_held, holds, some_hold}
use Rattle.weld_handing.specs.Merging.{list_merges, all_list_merges, always_merges}
use Rattle.weld_meaning.proofs.Tracing.{same_origins}
use Rattle.weld_handing.proofs.Traces.{or_false}
use Rattle.weld_handing.proofs.Answering.{OneClear, IsClear, AllClear}

then_by : {A B : Type 0} (o : Outcome A) (f : A → Outcome B) (y : B) → and_then o f ≡ done y → (x : A) × (o ≡ done x) × (f x ≡ done y)
then_by (done x) f y h = (x, refl, h)
then_by fault f y h = let nothing : ⊥ = cc in absurd nothing
then_by stuck f y h = let nothing : ⊥ = cc in absurd nothing

map_by : {A B : Type 0} (o : Outcome A) (f : A → B) (y : B) → map_out f o ≡ done y → (x : A) × (o ≡ done x) × (f x ≡ y)
map_by (done x) f y h = (x, refl, cc)
map_by fault f y h = let nothing : ⊥ = cc in absurd nothing
map_by stuck f y h = let nothing : ⊥ = cc in absurd nothing

module _ (base : List Value) where
  -- a list is this, and no other builder stands for it
  abbrev pub IsBase : Thing → Type 0
  IsBase (plain v) = Unit {0}
  IsBase (building (list_part vs)) = vs ≡ base
  IsBase (building (total_part op k x)) = ⊥
  IsBase (building (totals_part op xs)) = ⊥
  IsBase (building (cells_part op k xs)) = ⊥
  IsBase (building (keyed_part op k m)) = ⊥
  IsBase (building (groups_part m)) = ⊥
  IsBase (several ts) = Unit {0}

  abbrev mutual
    -- each list that is held is this
    pub Has : Origin → Thing → Type 0
    Has value v = Unit {0}
    Has made v = Unit {0}
    Has (own p) v = IsBase v
    Has outer v = Unit {0}
    Has (named s p) v = Unit {0}
    Has (struct os) (plain v) = Unit {0}
    Has (struct os) (building p) = Unit {0}
    Has (struct os) (several ts) = AllHave os ts

    pub AllHave : Origins → Things → Type 0
    AllHave no_origins ts = Unit {0}
    AllHave (more_origins o os) no_things = Unit {0}
    AllHave (more_origins o os) (more_things t ts) = Has o t × AllHave os ts

  abbrev pub EnvHas : Named Origin → Env → Type 0
  EnvHas q env = (s : ℕ) (v : Thing) → look_for s env ≡ Some v → Has (origin_of_name s q) v

  plain_has : (o : Origin) (v : Value) → Has o (plain v)
  plain_has value v = tt
  plain_has made v = tt
  plain_has (own p) v = tt
  plain_has outer v = tt
  plain_has (named s p) v = tt
  plain_has (struct os) v = tt

  at_has : (n : ℕ) (os : Origins) (ts : Things) (v : Thing) → AllHave os ts → thing_at n ts ≡ done v → Has (origin_at n os) v
  at_has zero no_origins ts v h e = tt
  at_has (suc n) no_origins ts v h e = tt
  at_has n (more_origins o os) no_things v h e = let nothing : ⊥ = cc in absurd nothing
  at_has zero (more_origins o os) (more_things t ts) v h e = let same : t ≡ v = cc in subst (Has o) same h.0
  at_has (suc n) (more_origins o os) (more_things t ts) v h e = at_has n os ts v h.1 e

  field_has : (n : ℕ) (o : Origin) (t v : Thing) → is_held o ≡ false → Has o t → field_of n t ≡ done v → Has (field_origin n o) v
  field_has n o (plain w) v u h e = let x = map_by (value_field n w) plain v e in subst (Has (field_origin n o)) x.2 (plain_has (field_origin n o) x.0)
  field_has n o (building p) v u h e = let nothing : ⊥ = cc in absurd nothing
  field_has n value (several ts) v u h e = tt
  field_has n made (several ts) v u h e = tt
  field_has n (own p) (several ts) v u h e = let nothing : ⊥ = cc in absurd nothing
  field_has n outer (several ts) v u h e = tt
  field_has n (named s p) (several ts) v u h e = tt
  field_has n (struct os) (several ts) v u h e = at_has n os ts v h e

  one_has : (o : One) (p : Origin) (t v : Thing) → OneClear o p → Has p t → one_thing o t ≡ done v → Has (one_origin o p) v
  one_has neg p t v c h e = tt
  one_has not p t v c h e = tt
  one_has (cast k) p t v c h e = tt
  one_has len p t v c h e = tt
  one_has (field n) p t v c h e = field_has n p t v c h e
  one_has finish p t v c h e = tt
  one_has (started b) p t v c h e = tt

  -- a merge into another builder
  merge_has : (o : Origin) (t v : Thing) (r : Outcome Thing) → is_held o ≡ false → Has o t → merged t r ≡ done v → Has o v
  merge_has value t v r u h e = tt
  merge_has made t v r u h e = tt
  merge_has (own p) t v r u h e = let nothing : ⊥ = cc in absurd nothing
  merge_has outer t v r u h e = tt
  merge_has (named s p) t v r u h e = tt
  merge_has (struct os) (plain w) v r u h e = let nothing : ⊥ = cc in absurd nothing
  merge_has (struct os) (building p) v r u h e =
      let x = then_by (value_out r) (λ w. map_out building (merge_part p w)) v e in
      let y = map_by (merge_part p x.0) building v x.2 in subst (Has (struct os)) y.2 tt
  merge_has (struct os) (several ts) v r u h e = let nothing : ⊥ = cc in absurd nothing

  struct_has : (os : Origins) (ts : Things) → AllHave os ts → Has (struct_origin os) (struct_of ts)
  struct_has os ts h = by (are_values os) (as_values ts)
    where
      by : (b : Bool) (r : Outcome Values) → Has (if b then value else struct os) (struct_from ts r)
      by true r = tt
      by false (done vs) = tt
      by false fault = h
      by false stuck = h

  mutual
    -- what holds none
    pub none_has : (o : Origin) (v : Thing) → holds o ≡ false → Has o v
    none_has value v e = tt
    none_has made v e = tt
    none_has (own p) v e = let nothing : ⊥ = cc in absurd nothing
    none_has outer v e = tt
    none_has (named s p) v e = tt
    none_has (struct os) (plain w) e = tt
    none_has (struct os) (building p) e = tt
    none_has (struct os) (several ts) e = all_none_have os ts e

    all_none_have : (os : Origins) (ts : Things) → some_hold os ≡ false → AllHave os ts
    all_none_have no_origins ts e = tt
    all_none_have (more_origins o os) no_things e = tt
    all_none_have (more_origins o os) (more_things t ts) e = let w = or_false (holds o) (some_hold os) e in (none_has o t w.0, all_none_have os ts w.1)

  bind_has : (z : ℕ) (o : Origin) (t : Thing) (q : Named Origin) (env : Env) → Has o t → EnvHas q env → EnvHas ((z, o) ∷ q) ((z, t) ∷ env)
  bind_has z o t q env h r s v e = by (cases_eq s z)
    where
      by : (s ≡ z) ⊎ (s ≢ z) → Has (origin_of_name s ((z, o) ∷ q)) v
      by (inl y) =
          let here : look_for s ((z, o) ∷ q) ≡ Some o = rw (eq-eqb s z y) refl in
          let there : look_for s ((z, t) ∷ env) ≡ Some t = rw (eq-eqb s z y) refl in
          let same : t ≡ v = let both : Some t ≡ Some v = sym there ∙ e in cc in
          subst (λ m. Has (known_origin m) v) (sym here) (subst (Has o) same h)
      by (inr ne) =
          let here : look_for s ((z, o) ∷ q) ≡ look_for s q = rw (ne_eqb s z ne) refl in
          let there : look_for s ((z, t) ∷ env) ≡ look_for s env = rw (ne_eqb s z ne) refl in
          subst (λ m. Has (known_origin m) v) (sym here) (r s v (sym there ∙ e))

  chosen_by : (t v : Thing) (o p : Outcome Thing) → chosen t o p ≡ done v → (o ≡ done v) ⊎ (p ≡ done v)
  chosen_by t v o p h =
      let x = then_by (as_value t) (λ a. and_then (truth_of a) (λ c. if c then o else p)) v h in
      let y = then_by (truth_of x.0) (λ c. if c then o else p) v x.2 in by y.0 y.2
    where
      by : (c : Bool) → (if c then o else p) ≡ done v → (o ≡ done v) ⊎ (p ≡ done v)
      by true e = inl e
      by false e = inr e

  arms_have : (o p : Origin) (t v : Thing) (r k : Outcome Thing) → o ≡ p → ((y : Thing) → r ≡ done y → Has o y) → ((y : Thing) → k ≡ done y → Has p y) → chosen t r k ≡ done v → Has o v
  arms_have o p t v r k same f g e = by (chosen_by t v r k e)
    where
      by : (r ≡ done v) ⊎ (k ≡ done v) → Has o v
      by (inl y) = f v y
      by (inr y) = subst (λ u. Has u v) (sym same) (g v y)

  -- no merge at a node of two parts
  unheld_two : (b : Bool) (m k : ℕ) → (if b then 1 else 0) + (m + k) ≡ 0 → (b ≡ false) × (m ≡ 0) × (k ≡ 0)
  unheld_two true m k e = let nothing : ⊥ = omega (arith, e) in absurd nothing
  unheld_two false m k e = (refl, omega (arith, e), omega (arith, e))

  mutual
    -- what is merged into nowhere stays
    pub unchanged : (e : ExprTree) (q : Named Origin) (env : Env) (v : Thing) → list_merges q e ≡ 0 → IsClear q e → Keeps e q → EnvHas q env → eval e env ≡ done v → Has (origin e q) v
    unchanged (leaf a (int k x)) q env v m c h r e = tt
    unchanged (leaf a (truth b)) q env v m c h r e = tt
    unchanged (leaf a (chars bs)) q env v m c h r e = tt
    unchanged (leaf a (name s)) q env v m c h r e = r s v (found_by (look_for s env) e)
      where
        found_by : (o : Option Thing) → found o ≡ done v → o ≡ Some v
        found_by (Some t) y = let same : t ≡ v = cc in ap Some same
        found_by None y = let nothing : ⊥ = cc in absurd nothing
    unchanged (leaf a (fresh b)) q env v m c h r e = tt
    unchanged (one a o p) q env v m c h r e =
        let x = then_by (eval p env) (one_thing o) v e in one_has o (origin p q) x.0 v c.1 (unchanged p q env x.0 m c.0 h.0 r x.1) x.2
    unchanged (two a (binary op) p g) q env v m c h r e = tt
    unchanged (two a and p g) q env v m c h r e = tt
    unchanged (two a or p g) q env v m c h r e = tt
    unchanged (two a look_up p g) q env v m c h r e = tt
    unchanged (two a key_exists p g) q env v m c h r e = tt
    unchanged (two a merge p g) q env v m c h r e =
        let k = unheld_two (is_held (origin p q)) (list_merges q p) (list_merges q g) m in
        let x = then_by (eval p env) (λ t. merged t (eval g env)) v e in
        merge_has (origin p q) x.0 v (eval g env) k.0 (unchanged p q env x.0 k.1 c.0 h.0 r x.1) x.2
    unchanged (three a if_else d p g) q env v m c h r e =
        let x = then_by (eval d env) (λ t. chosen t (eval p env) (eval g env)) v e in
        arms_have (origin p q) (origin g q) x.0 v (eval p env) (eval g env) (same_origins p g q h.3.same)
        (λ y k. unchanged p q env y (omega (arith, m)) c.1 h.1 r k) (λ y k. unchanged g q env y (omega (arith, m)) c.2 h.2 r k) x.2
    unchanged (three a select d p g) q env v m c h r e = tt
    unchanged (three a slice d p g) q env v m c h r e = tt
    unchanged (many a make_vec es) q env v m c h r e = tt
    unchanged (many a make_struct es) q env v m c h r e =
        let x = then_by (eval_all es env) (many_thing make_struct) v e in
        let same : struct_of x.0 ≡ v = let both : done (struct_of x.0) ≡ done v = x.2 in cc in
        subst (Has (struct_origin (origins es q))) same (struct_has (origins es q) x.0 (all_unchanged es q env x.0 m c h r x.1))
    unchanged (let_in a z p g) q env v m c h r e =
        let x = then_by (eval p env) (λ t. eval g ((z.sym.0, t) ∷ env)) v e in
        unchanged g ((z.sym.0, origin p q) ∷ q) ((z.sym.0, x.0) ∷ env) v (omega (arith, m)) c.1 h.1
        (bind_has z.sym.0 (origin p q) x.0 q env (unchanged p q env x.0 (omega (arith, m)) c.0 h.0 r x.1) r) x.2
    unchanged (loop a ls p b n x g) q env v m c h r e = none_has (origin p q) v c.2
    unchanged (iterate a p b g) q env v m c h r e = tt

    all_unchanged : (es : ExprTrees) (q : Named Origin) (env : Env) (ts : Things) → all_list_merges q es ≡ 0 → AllClear q es → AllKeep es q → EnvHas q env → eval_all es env ≡ done ts → AllHave (origins es q) ts
    all_unchanged no_exprs q env ts m c h r e = tt
    all_unchanged (more_exprs p es) q env ts m c h r e =
        let x = then_by (eval p env) (λ t. map_out (more_things t) (eval_all es env)) ts e in
        let y = map_by (eval_all es env) (more_things x.0) ts x.2 in
        subst (AllHave (origins (more_exprs p es) q)) y.2
        (unchanged p q env x.0 (omega (arith, m)) c.0 h.0 r x.1, all_unchanged es q env y.0 (omega (arith, m)) c.1 h.1 r y.1)

-- ---- one value

-- a list of one value
abbrev pub IsSingle : Thing → Type 0
IsSingle (plain v) = ⊥
IsSingle (building (list_part vs)) = (w : Value) × (vs ≡ w ∷ [])
IsSingle (building (total_part op k x)) = ⊥
IsSingle (building (totals_part op xs)) = ⊥
IsSingle (building (cells_part op k xs)) = ⊥
IsSingle (building (keyed_part op k m)) = ⊥
IsSingle (building (groups_part m)) = ⊥
IsSingle (several ts) = ⊥

merged_single : (o : Origin) (t v : Thing) (r : Outcome Thing) → is_held o ≡ true → Has [] o t → merged t r ≡ done v → IsSingle v
merged_single value t v r u h e = let nothing : ⊥ = cc in absurd nothing
merged_single made t v r u h e = let nothing : ⊥ = cc in absurd nothing
merged_single outer t v r u h e = let nothing : ⊥ = cc in absurd nothing
merged_single (named s p) t v r u h e = let nothing : ⊥ = cc in absurd nothing
merged_single (struct os) t v r u h e = let nothing : ⊥ = cc in absurd nothing
merged_single (own p) (plain w) v r u h e = let nothing : ⊥ = cc in absurd nothing
merged_single (own p) (several ts) v r u h e = let nothing : ⊥ = cc in absurd nothing
merged_single (own p) (building (total_part op k x)) v r u h e = absurd h
merged_single (own p) (building (totals_part op xs)) v r u h e = absurd h
merged_single (own p) (building (cells_part op k xs)) v r u h e = absurd h
merged_single (own p) (building (keyed_part op k m)) v r u h e = absurd h
merged_single (own p) (building (groups_part m)) v r u h e = absurd h
merged_single (own p) (building (list_part vs)) v r u h e =
    let x = then_by (value_out r) (λ w. map_out building (merge_part (list_part vs) w)) v e in
    let same : building (list_part (vs ++ x.0 ∷ [])) ≡ v = let both : done (building (list_part (vs ++ x.0 ∷ []))) ≡ done v = x.2 in cc in
    subst IsSingle same (x.0, ap (λ us. us ++ x.0 ∷ []) h)

counted : (b : Bool) → b ≡ true → (if b then suc zero else zero) ≡ suc zero
counted true h = refl
counted false h = let nothing : ⊥ = cc in absurd nothing

some_merge : (e : ExprTree) (q : Named Origin) → always_merges q e ≡ true → 1 ≤ list_merges q e
some_merge (leaf a l) q h = let nothing : ⊥ = cc in absurd nothing
some_merge (one a o p) q h = let nothing : ⊥ = cc in absurd nothing
some_merge (two a o p g) q h = let here = counted (is_merge o && is_held (origin p q)) h in omega (arith, here)
some_merge (three a o d p g) q h = let nothing : ⊥ = cc in absurd nothing
some_merge (many a o es) q h = let nothing : ⊥ = cc in absurd nothing
some_merge (let_in a z p g) q h = omega (arith, some_merge g ((z.sym.0, origin p q) ∷ q) h)
some_merge (loop a ls p b n x g) q h = let nothing : ⊥ = cc in absurd nothing
some_merge (iterate a p b g) q h = let nothing : ⊥ = cc in absurd nothing

-- what merges once, in every row, makes a list of one value of an empty one
pub single : (e : ExprTree) (q : Named Origin) (env : Env) (v : Thing) → always_merges q e ≡ true → list_merges q e ≡ 1 → IsClear q e → Keeps e q → EnvHas [] q env → eval e env ≡ done v → IsSingle v
single (leaf a l) q env v w m c h r e = let nothing : ⊥ = cc in absurd nothing
single (one a o p) q env v w m c h r e = let nothing : ⊥ = cc in absurd nothing
single (two a (binary op) p g) q env v w m c h r e = let nothing : ⊥ = cc in absurd nothing
single (two a and p g) q env v w m c h r e = let nothing : ⊥ = cc in absurd nothing
single (two a or p g) q env v w m c h r e = let nothing : ⊥ = cc in absurd nothing
single (two a look_up p g) q env v w m c h r e = let nothing : ⊥ = cc in absurd nothing
single (two a key_exists p g) q env v w m c h r e = let nothing : ⊥ = cc in absurd nothing
single (two a merge p g) q env v w m c h r e =
    let here = counted (is_held (origin p q)) w in
    let none : list_merges q p ≡ 0 = omega (arith, here, m) in
    let x = then_by (eval p env) (λ t. merged t (eval g env)) v e in
    merged_single (origin p q) x.0 v (eval g env) w (unchanged [] p q env x.0 none c.0 h.0 r x.1) x.2
single (three a o d p g) q env v w m c h r e = let nothing : ⊥ = cc in absurd nothing
single (many a o es) q env v w m c h r e = let nothing : ⊥ = cc in absurd nothing
single (let_in a z p g) q env v w m c h r e =
    let some = some_merge g ((z.sym.0, origin p q) ∷ q) w in
    let none : list_merges q p ≡ 0 = omega (arith, some, m) in
    let once : list_merges ((z.sym.0, origin p q) ∷ q) g ≡ 1 = omega (arith, some, m) in
    let x = then_by (eval p env) (λ t. eval g ((z.sym.0, t) ∷ env)) v e in
    single g ((z.sym.0, origin p q) ∷ q) ((z.sym.0, x.0) ∷ env) v w once c.1 h.1
    (bind_has [] z.sym.0 (origin p q) x.0 q env (unchanged [] p q env x.0 none c.0 h.0 r x.1) r) x.2
single (loop a ls p b n x g) q env v w m c h r e = let nothing : ⊥ = cc in absurd nothing
single (iterate a p b g) q env v w m c h r e = let nothing : ⊥ = cc in absurd nothing
