-- What can't be handed to the other loop stays so: an expression that takes a broken path answers what can't be handed on.
use Rattle.std.proofs.Common.{◌≡◌, ◌≢◌, ℕ, zero, suc, ◌==◌, Bool, true, false, not, ◌&&◌, ◌||◌, if◌then◌else◌, List, [], ◌∷◌, ◌++◌, Option, Some, None, refl, ap, sym, subst, ◌∙◌, ◌⊎◌, inl, inr, eq-eqb, ne_eqb}
use Rattle.std.proofs.lemmas.Bool.{cases_eq, not-true}
use Rattle.weld_data.specs.Value.{Value, Values, list}
use Rattle.weld_tree.specs.declared.binder.Binder.{Binder}
use Rattle.weld_tree.specs.TypeTree.{TypeTree, TypeTrees, no_types, more_types, vec, struct as tuple}
use Rattle.weld_tree.specs.Types.{IsWellFormed, AreWellFormed, AreBuilders}
use Rattle.weld_tree.specs.ExprTree.{At, ExprTree, leaf, one, two, three, many, let_in, loop, iterate, ExprTrees, no_exprs, more_exprs, LegTree, whole, strided, LegTrees, no_legs, more_legs, Leaf, One, neg, not as not_of, cast, len, field, finish, started, Two, binary, and, or, look_up, key_exists, merge, Three, if_else, select, slice, Many, make_vec, make_struct}
use Rattle.weld_builders.specs.Outcome.{Outcome, done, fault, stuck, and_then, map_out}
use Rattle.weld_builders.specs.Part.{list_part, total_part, totals_part, cells_part, keyed_part, groups_part, merge_part}
use Rattle.weld_meaning.specs.Environment.{Named, look_for}
use Rattle.weld_meaning.specs.Thing.{Thing, plain, building, several, Things, more_things, as_value, as_values, struct_from, struct_of, field_of}
use Rattle.weld_meaning.specs.Typing.{Types, AreFormed, place_type, IsField, OneHas, HasType, HaveTypes, LegHas, LegsHave}
use Rattle.weld_meaning.specs.Evaluation.{Env, found, elements_of, strided_of, truth_of, value_out, truth_value, on_values, on_three, chosen, merged, finished, one_thing, two_thing, three_thing, many_thing, rows_of, number_from, run, whole_number, with_row, turns, turn_limit, eval, eval_all, eval_leg, eval_legs}
use Rattle.weld_meaning.specs.Origin.{Path, Origin, value, made, own, outer, named, struct, Origins, no_origins, more_origins, origin_at, field_origin, is_value, are_values, struct_origin, origin_of_name, leaf_origin, one_origin, two_origin, three_origin, many_origin, origin, origins}
use Rattle.weld_meaning.specs.Linear.{IsNotOwn, OneKeeps, ThreeKeeps, Keeps, AllKeep, LegKeeps, LegsKeep}
use Rattle.weld_meaning.specs.Available.{field_within, at_path, chain_of_leaf, chain_of_one, chain_of, chain_takes, takes, some_take, leg_takes, legs_take, Taken, ChainSplits, OneSplits, TwoSplits, ThreeSplits, Splits, AllSplit, LegSplits, LegsSplit}
use Rattle.weld_meaning.specs.Forms.{HasForm, HaveForms, NamesHaveForms}
use Rattle.weld_meaning.proofs.OriginTypes.{not_both, origin_forms, forms_bind}
use Rattle.weld_meaning.proofs.WellFormed.{formed_bind, type_formed}
use Rattle.weld_substitution.proofs.Chains.{or_true, chain_by}
use Rattle.weld_substitution.proofs.Following.{and_true, below_is, taken_by_chain}
use Rattle.weld_handing.specs.Handing.{holds, starts_none, all_start_none, leg_starts_none, legs_start_none}
use Rattle.weld_meaning.proofs.Tracing.{same_origins}
use Rattle.weld_handing.proofs.Held.{values_hold}
use Rattle.weld_handing.proofs.HandingOn.{Fails, fails_then, fails_after, fails_map, then_done_by, map_done_by, value_done_by, done_same, hand, hand_all, hands_plain, hands_none, all_hand_none, values_hand, piece_at, Broken, broken_above, breaks}

-- ---- what was evaluated

-- a value came out of a value
pub value_out_by : (o : Outcome Thing) (b : Value) → value_out o ≡ done b → o ≡ done (plain b)
value_out_by o b h = let x = then_done_by o as_value b h in x.1 ∙ ap done (value_done_by x.0 b x.2)

-- it is a value
abbrev IsPlain : Thing → Type 0
IsPlain t = (b : Value) × (t ≡ plain b)

-- it was done with a value
abbrev GavePlain : Outcome Thing → Type 0
GavePlain o = (b : Value) × (o ≡ done (plain b))

-- what went on from its value is a value
value_then : {B : Type 0} (t : Thing) (f : Value → Outcome B) (y : B) → and_then (as_value t) f ≡ done y → IsPlain t
value_then t f y h = let x = then_done_by (as_value t) f y h in (x.0, value_done_by t x.0 x.1)

-- what was made from its value is a value
value_mapped : (t : Thing) (f : Value → Outcome Value) (v : Thing) → map_out plain (and_then (as_value t) f) ≡ done v → IsPlain t
value_mapped t f v h = let x = map_done_by (and_then (as_value t) f) plain v h in value_then t f x.0 x.1

-- the second of two values was one
second_plain : (f : Value → Value → Outcome Value) (t v : Thing) (o : Outcome Thing) → on_values f t o ≡ done v → GavePlain o
second_plain f t v o h =
    let x = map_done_by (and_then (as_value t) (λ a. and_then (value_out o) (f a))) plain v h in
    let y = then_done_by (as_value t) (λ a. and_then (value_out o) (f a)) x.0 x.1 in
    let z = then_done_by (value_out o) (f y.0) x.0 y.2 in (z.0, value_out_by o z.0 z.1)

-- the second and third of three values were values
later_plain : (f : Value → Value → Value → Outcome Value) (t v : Thing) (o p : Outcome Thing) → on_three f t o p ≡ done v → (GavePlain o) × (GavePlain p)
later_plain f t v o p h =
    let x = map_done_by (and_then (as_value t) (λ a. and_then (value_out o) (λ b. and_then (value_out p) (f a b)))) plain v h in
    let y = then_done_by (as_value t) (λ a. and_then (value_out o) (λ b. and_then (value_out p) (f a b))) x.0 x.1 in
    let z = then_done_by (value_out o) (λ b. and_then (value_out p) (f y.0 b)) x.0 y.2 in
    let u = then_done_by (value_out p) (f y.0 z.0) x.0 z.2 in ((z.0, value_out_by o z.0 z.1), (u.0, value_out_by p u.0 u.1))

-- one of both was chosen
chosen_by : (t v : Thing) (o p : Outcome Thing) → chosen t o p ≡ done v → (o ≡ done v) ⊎ (p ≡ done v)
chosen_by t v o p h =
    let x = then_done_by (as_value t) (λ a. and_then (truth_of a) (λ c. if c then o else p)) v h in
    let y = then_done_by (truth_of x.0) (λ c. if c then o else p) v x.2 in by y.0 y.2
  where
    by : (c : Bool) → (if c then o else p) ≡ done v → (o ≡ done v) ⊎ (p ≡ done v)
    by true e = inl e
    by false e = inr e

-- where the second part of two takes a builder, it was a value
second_of_two_plain : (o : Two) (t v : Thing) (p : Outcome Thing) (right : Taken) (s : ℕ) (w : Path) → TwoSplits o right → right s w ≡ true → two_thing o t p ≡ done v → GavePlain p
second_of_two_plain (binary op) t v p right s w k r h = second_plain _ t v p h
second_of_two_plain and t v p right s w k r h = let same : true ≡ false = sym r ∙ k.none s w in let nothing : ⊥ = cc in absurd nothing
second_of_two_plain or t v p right s w k r h = let same : true ≡ false = sym r ∙ k.none s w in let nothing : ⊥ = cc in absurd nothing
second_of_two_plain look_up t v p right s w k r h = second_plain _ t v p h
second_of_two_plain key_exists t v p right s w k r h = second_plain _ t v p h
second_of_two_plain merge (plain b) v p right s w k r h = let nothing : ⊥ = cc in absurd nothing
second_of_two_plain merge (building d) v p right s w k r h =
    let x = then_done_by (value_out p) (λ b. map_out building (merge_part d b)) v h in (x.0, value_out_by p x.0 x.1)
second_of_two_plain merge (several ts) v p right s w k r h = let nothing : ⊥ = cc in absurd nothing

-- the first part of three is a value
first_of_three_plain : (o : Three) (t v : Thing) (p r : Outcome Thing) → three_thing o t p r ≡ done v → IsPlain t
first_of_three_plain if_else t v p r h = value_then t _ v h
first_of_three_plain select t v p r h = value_mapped t _ v h
first_of_three_plain slice t v p r h = value_mapped t _ v h

-- ---- origins

-- what is told to be a value is one
pub value_is : (o : Origin) → is_value o ≡ true → o ≡ value
value_is value h = refl
value_is made h = let nothing : ⊥ = cc in absurd nothing
value_is (own p) h = let nothing : ⊥ = cc in absurd nothing
value_is outer h = let nothing : ⊥ = cc in absurd nothing
value_is (named s p) h = let nothing : ⊥ = cc in absurd nothing
value_is (struct os) h = let nothing : ⊥ = cc in absurd nothing

-- what is no chain with a field is none without it
pub no_chain : (n : ℕ) (m : Option (ℕ × Path)) → chain_of_one (field n) m ≡ None → m ≡ None
no_chain n (Some c) h = let nothing : ⊥ = cc in absurd nothing
no_chain n None h = refl

-- a field of a struct of builders is none of values
pub no_value_at : (n : ℕ) (os : Origins) (us : TypeTrees) (t : TypeTree) → IsField n us t → AreWellFormed us → AreBuilders us → HaveForms os us → is_value (origin_at n os) ≡ true → ⊥
no_value_at zero os no_types t i w b f e = i
no_value_at (suc n) os no_types t i w b f e = i
no_value_at zero no_origins (more_types u us) t i w b f e = f
no_value_at zero (more_origins o os) (more_types u us) t i w b f e = not_both u w.0 b.0 (subst (λ z. HasForm z u) (value_is o e) f.0)
no_value_at (suc n) no_origins (more_types u us) t i w b f e = f
no_value_at (suc n) (more_origins o os) (more_types u us) t i w b f e = no_value_at n os us t i w.1 b.1 f.1 e

-- what of a chain isn't a value is what stands at its path
chain_is_there : (q : Named Origin) (e : ExprTree) (c : ℕ × Path) → chain_of e ≡ Some c → (z : Origin) → is_value z ≡ false → at_path c.1 (origin_of_name c.0 q) ≡ z → origin e q ≡ z
chain_is_there q e c k =
    chain_by (λ e c. (z : Origin) → is_value z ≡ false → at_path c.1 (origin_of_name c.0 q) ≡ z → origin e q ≡ z) (λ a s z not_value h. h)
    (λ a n e c k f z not_value h. further n (at_path c.1 (origin_of_name c.0 q)) (origin e q) f z not_value h) e c k
  where
    further : (n : ℕ) (y o : Origin) → ((z : Origin) → is_value z ≡ false → y ≡ z → o ≡ z) → (z : Origin) → is_value z ≡ false → field_within n y ≡ z → field_origin n o ≡ z
    further n value o f z not_value h = let same : true ≡ false = ap is_value h ∙ not_value in let nothing : ⊥ = cc in absurd nothing
    further n made o f z not_value h = let same : true ≡ false = ap is_value h ∙ not_value in let nothing : ⊥ = cc in absurd nothing
    further n (own p) o f z not_value h = let same : true ≡ false = ap is_value h ∙ not_value in let nothing : ⊥ = cc in absurd nothing
    further n outer o f z not_value h = let same : true ≡ false = ap is_value h ∙ not_value in let nothing : ⊥ = cc in absurd nothing
    further n (named s p) o f z not_value h = let same : true ≡ false = ap is_value h ∙ not_value in let nothing : ⊥ = cc in absurd nothing
    further n (struct os) o f z not_value h = ap (field_origin n) (f (struct os) refl refl) ∙ h

-- ---- what stays

-- a longer list isn't handed on where a shorter isn't
module _ (consumed : List Value → Outcome Thing) (longer : (vs : List Value) (v : Value) → Fails (consumed vs) → Fails (consumed (vs ++ v ∷ []))) where
  -- it can't be broken
  no_plain : (o : Origin) (t : Thing) → IsPlain t → Fails (hand consumed o t) → ⊥
  no_plain o t p h = subst Fails (subst (λ z. hand consumed o z ≡ done z) (sym p.1) (hands_plain consumed o p.0)) h

  -- a value is always handed on
  no_value : (o : Origin) (b : Value) → Fails (hand consumed o (plain b)) → ⊥
  no_value o b h = no_plain o (plain b) (b, refl) h

  -- what can't be handed on comes from no value
  no_value_thing : (o : Origin) (z : Thing) → Fails (hand consumed o z) → is_value o ≡ false
  no_value_thing value z h = absurd h
  no_value_thing made z h = refl
  no_value_thing (own p) z h = refl
  no_value_thing outer z h = refl
  no_value_thing (named s p) z h = refl
  no_value_thing (struct os) z h = refl

  -- a chain answers what stands at its path
  chain_piece : (env : Env) (x : Thing) (e : ExprTree) (c : ℕ × Path) → chain_of e ≡ Some c → look_for c.0 env ≡ Some x → eval e env ≡ piece_at consumed c.1 x
  chain_piece env x e c k =
      chain_by (λ e c. look_for c.0 env ≡ Some x → eval e env ≡ piece_at consumed c.1 x) (λ a s h. ap found h)
      (λ a n e c k f h. ap (λ o. and_then o (field_of n)) (f h)) e c k

  -- a chain that takes a broken path answers what can't be handed on
  chain_stays : (q : Named Origin) (env : Env) (s : ℕ) (w : Path) (x v : Thing) (e : ExprTree) (c : ℕ × Path) → chain_of e ≡ Some c → takes e q s w ≡ true → look_for s env ≡ Some x → Broken consumed w (origin_of_name s q) x → eval e env ≡ done v → Fails (hand consumed (origin e q) v)
  chain_stays q env s w x v e c k taken there broken h =
      let t = taken_by_chain e c q s w k taken in
      let b = below_is c.1 w t.1 in
      let o : Origin = origin_of_name c.0 q in
      let here : look_for c.0 env ≡ Some x = ap (λ y. look_for y env) t.0 ∙ there in
      let broken_here : Broken consumed c.1 o x =
      broken_above consumed b.0 c.1 o x (subst (λ y. Broken consumed y o x) b.1 (subst (λ y. Broken consumed w (origin_of_name y q) x) (sym t.0) broken)) in
      let same : broken_here.0 ≡ v = done_same broken_here.0 v (sym broken_here.1 ∙ sym (chain_piece env x e c k here) ∙ h) in
      let from = chain_is_there q e c k (at_path c.1 o) (no_value_thing (at_path c.1 o) broken_here.0 broken_here.2) refl in
      subst (λ y. Fails (hand consumed y v)) (sym from) (subst (λ y. Fails (hand consumed (at_path c.1 o) y)) same broken_here.2)

  -- ---- node by node

  -- a field that is a value stands in no thing that can't be handed on
  field_stops : (n : ℕ) (from : Origin) (us : TypeTrees) (t : TypeTree) (y : Thing) → IsField n us t → IsWellFormed (tuple us) → HasForm from (tuple us) → is_value (field_origin n from) ≡ true → Fails (hand consumed from y) → ⊥
  field_stops n value us t y i w form e f = f
  field_stops n made us t y i w form e f = f
  field_stops n (own p) us t y i w form e f = form
  field_stops n outer us t y i w form e f = f
  field_stops n (named s p) us t y i w form e f = f
  field_stops n (struct os) us t y i w form e f = no_value_at n os us t i w.1 form.0 form.1 e

  -- nothing that can't be handed on is finished
  finish_stops : (from : Origin) (y v : Thing) → IsNotOwn from → finished y ≡ done v → Fails (hand consumed from y) → ⊥
  finish_stops value y v keeps h f = f
  finish_stops made y v keeps h f = f
  finish_stops (own p) y v keeps h f = keeps
  finish_stops outer y v keeps h f = f
  finish_stops (named s p) y v keeps h f = f
  finish_stops (struct os) (plain b) v keeps h f = f
  finish_stops (struct os) (building d) v keeps h f = f
  finish_stops (struct os) (several ts) v keeps h f = let nothing : ⊥ = cc in absurd nothing

  -- but for chains, forms of one part answer nothing where it can't be handed on
  one_stops : (o : One) (e : ExprTree) (from : Origin) (u t : TypeTree) (y v : Thing) → OneHas o u t → IsWellFormed u → HasForm from u → OneKeeps o from → OneSplits o e from → chain_of_one o (chain_of e) ≡ None → one_thing o y ≡ done v → Fails (hand consumed from y) → ⊥
  one_stops neg e from u t y v has w form keeps splits none h f = no_plain from y (value_mapped y _ v h) f
  one_stops not_of e from u t y v has w form keeps splits none h f = no_plain from y (value_mapped y _ v h) f
  one_stops (cast k) e from u t y v has w form keeps splits none h f = no_plain from y (value_mapped y _ v h) f
  one_stops len e from u t y v has w form keeps splits none h f = no_plain from y (value_mapped y _ v h) f
  one_stops (field n) e from u t y v has w form keeps splits none h f =
      let not_chain : ChainSplits None (field_origin n from) = subst (λ m. ChainSplits m (field_origin n from)) (no_chain n (chain_of e) none) splits in
      field_stops n from has.0 t y has.2 (subst IsWellFormed has.1 w) (subst (HasForm from) has.1 form) not_chain f
  one_stops finish e from u t y v has w form keeps splits none h f = finish_stops from y v keeps h f
  one_stops (started b) e from u t y v has w form keeps splits none h f = no_plain from y (value_then y _ v h) f

  -- with one more value a list still can't be handed on
  merge_stays : (from : Origin) (t v : Thing) (p : Outcome Thing) → merged t p ≡ done v → Fails (hand consumed from t) → Fails (hand consumed from v)
  merge_stays value t v p h f = absurd f
  merge_stays made t v p h f = absurd f
  merge_stays outer t v p h f = absurd f
  merge_stays (named s q) t v p h f = absurd f
  merge_stays (struct os) (plain b) v p h f = absurd f
  merge_stays (struct os) (building d) v p h f = absurd f
  merge_stays (struct os) (several ts) v p h f = let nothing : ⊥ = cc in absurd nothing
  merge_stays (own q) (plain b) v p h f = absurd f
  merge_stays (own q) (several ts) v p h f = absurd f
  merge_stays (own q) (building (list_part vs)) v p h f =
      let x = then_done_by (value_out p) (λ b. map_out building (merge_part (list_part vs) b)) v h in
      let same : building (list_part (vs ++ x.0 ∷ [])) ≡ v = done_same (building (list_part (vs ++ x.0 ∷ []))) v x.2 in
      subst (λ z. Fails (hand consumed (own q) z)) same (longer vs x.0 f)
  merge_stays (own q) (building (total_part op k y)) v p h f = absurd f
  merge_stays (own q) (building (totals_part op xs)) v p h f = absurd f
  merge_stays (own q) (building (cells_part op k xs)) v p h f = absurd f
  merge_stays (own q) (building (keyed_part op k m)) v p h f = absurd f
  merge_stays (own q) (building (groups_part m)) v p h f = absurd f

  -- forms of two parts by their first
  first_of_two_stays : (o : Two) (from : Origin) (t v : Thing) (p : Outcome Thing) → two_thing o t p ≡ done v → Fails (hand consumed from t) → Fails (hand consumed (two_origin o from) v)
  first_of_two_stays (binary op) from t v p h f = absurd (no_plain from t (value_mapped t _ v h) f)
  first_of_two_stays and from t v p h f = let x = map_done_by (chosen t (value_out p) (done (truth_value false))) plain v h in absurd (no_plain from t (value_then t _ x.0 x.1) f)
  first_of_two_stays or from t v p h f = let x = map_done_by (chosen t (done (truth_value true)) (value_out p)) plain v h in absurd (no_plain from t (value_then t _ x.0 x.1) f)
  first_of_two_stays look_up from t v p h f = absurd (no_plain from t (value_mapped t _ v h) f)
  first_of_two_stays key_exists from t v p h f = absurd (no_plain from t (value_mapped t _ v h) f)
  first_of_two_stays merge from t v p h f = merge_stays from t v p h f

  -- forms of any number of parts
  many_stays : (o : Many) (os : Origins) (ts : Things) (v : Thing) → many_thing o ts ≡ done v → Fails (hand_all consumed os ts) → Fails (hand consumed (many_origin o os) v)
  many_stays make_vec os ts v h f =
      let x = map_done_by (as_values ts) (λ vs. plain (list vs)) v h in absurd (subst Fails (values_hand consumed os ts x.0 x.1) f)
  many_stays make_struct os ts v h f = by (as_values ts) refl (are_values os) refl
    where
      same : struct_of ts ≡ v
      same = done_same (struct_of ts) v h

      by : (o : Outcome Values) → as_values ts ≡ o → (b : Bool) → are_values os ≡ b → Fails (hand consumed (struct_origin os) v)
      by (done vs) e b k = absurd (subst Fails (values_hand consumed os ts vs e) f)
      by fault e true k = absurd (subst Fails (all_hand_none consumed os ts (values_hold os k)) f)
      by stuck e true k = absurd (subst Fails (all_hand_none consumed os ts (values_hold os k)) f)
      by fault e false k = subst (λ z. Fails (hand consumed (struct_origin os) z)) (sym (ap (struct_from ts) e) ∙ same) (rw k (fails_map (hand_all consumed os ts) several f))
      by stuck e false k = subst (λ z. Fails (hand consumed (struct_origin os) z)) (sym (ap (struct_from ts) e) ∙ same) (rw k (fails_map (hand_all consumed os ts) several f))

  -- either of two
  either_stops : (a b : Bool) → (a || b) ≡ true → (a ≡ true → ⊥) → (b ≡ true → ⊥) → ⊥
  either_stops true b h f g = f refl
  either_stops false b h f g = g h

  -- any of four
  four_stop : (a b c d : Bool) → (a || (b || (c || d))) ≡ true → (a ≡ true → ⊥) → (b ≡ true → ⊥) → (c ≡ true → ⊥) → (d ≡ true → ⊥) → ⊥
  four_stop a b c d h f g k l = either_stops a (b || (c || d)) h f (λ i. either_stops b (c || d) i g (λ j. either_stops c d j k l))

  -- a loop takes no broken path by its legs or its builder
  loop_stops : (a b : Bool) (o : Origin) (z v : Thing) → not (holds o) ≡ true → (a || b) ≡ true → (a ≡ true → ⊥) → (b ≡ true → Fails (hand consumed o z)) → Fails (hand consumed o v)
  loop_stops a b o z v n h f g = absurd (either_stops a b h f (λ k. subst Fails (hands_none consumed o z (not-true (holds o) n)) (g k)))

  -- one of the fields can't be handed on
  more_stay : (a b : Bool) (o : Origin) (os : Origins) (t : Thing) (ts : Things) → (a || b) ≡ true → (a ≡ true → Fails (hand consumed o t)) → (b ≡ true → Fails (hand_all consumed os ts)) → Fails (hand_all consumed (more_origins o os) (more_things t ts))
  more_stay true b o os t ts h f g = fails_then (hand consumed o t) (λ z. map_out (more_things z) (hand_all consumed os ts)) (f refl)
  more_stay false b o os t ts h f g =
      fails_after (hand consumed o t) (λ z. map_out (more_things z) (hand_all consumed os ts)) (λ z k. fails_map (hand_all consumed os ts) (more_things z) (g h))

  -- ---- the induction

  -- the name stands for a thing that is broken at the path
  pub record Breaking (h : Types) (q : Named Origin) (env : Env) (s : ℕ) (w : Path) (x : Thing) : Type 0 where
    pub formed : AreFormed h
    pub forms : NamesHaveForms q h
    pub there : look_for s env ≡ Some x
    pub broken : Broken consumed w (origin_of_name s q) x

  -- under a binder that stands for a broken thing
  pub breaking_here : (h : Types) (q : Named Origin) (env : Env) (z : ℕ) (u : TypeTree) (o : Origin) (w : Path) (y : Thing) → IsWellFormed u → HasForm o u → AreFormed h → NamesHaveForms q h → Broken consumed w o y → Breaking ((z, u) ∷ h) ((z, o) ∷ q) ((z, y) ∷ env) z w y
  breaking_here h q env z u o w y f m a n b = record {
    formed = formed_bind h z u f a;
    forms = forms_bind q h z o u m n;
    there = rw (eq-eqb z z refl) refl;
    broken = rw (eq-eqb z z refl) b;
  }

  -- and under one that stands for something else
  breaking_behind : (h : Types) (q : Named Origin) (env : Env) (s z : ℕ) (u : TypeTree) (o : Origin) (w : Path) (x y : Thing) → s ≢ z → IsWellFormed u → HasForm o u → Breaking h q env s w x → Breaking ((z, u) ∷ h) ((z, o) ∷ q) ((z, y) ∷ env) s w x
  breaking_behind h q env s z u o w x y ne f m r = record {
    formed = formed_bind h z u f r.formed;
    forms = forms_bind q h z o u m r.forms;
    there = rw (ne_eqb s z ne) r.there;
    broken = rw (ne_eqb s z ne) r.broken;
  }

  -- what takes a broken path of a name answers what can't be handed on
  abbrev Stays : ExprTree → Type 0
  Stays e =
      (h : Types) (q : Named Origin) (t : TypeTree) (env : Env) (s : ℕ) (w : Path) (x v : Thing)
      → HasType e h t → Keeps e q → Splits e q → starts_none q e ≡ true → Breaking h q env s w x → takes e q s w ≡ true → eval e env ≡ done v → Fails (hand consumed (origin e q) v)

  -- a let by its value and body: what is broken in the value is taken in the body
  let_stays : (a : At) (z : Binder) (e g : ExprTree) → Stays e → Stays g → Stays (let_in a z e g)
  let_stays a z e g value_stays body_stays h q t env s w x v typed keeps splits starts r taken ev =
      let y = then_done_by (eval e env) (λ y. eval g ((z.sym.0, y) ∷ env)) v ev in
      let st = and_true (starts_none q e) (starts_none ((z.sym.0, origin e q) ∷ q) g) starts in
      let formed : IsWellFormed typed.0 = type_formed e h typed.0 typed.1 r.formed in
      let form : HasForm (origin e q) typed.0 = origin_forms e q h typed.0 typed.1 r.formed r.forms in
      by y.0 y.1 y.2 st.0 st.1 formed form (or_true (takes e q s w) (if z.sym.0 == s then false else takes g ((z.sym.0, origin e q) ∷ q) s w) taken)
    where
      by : (y : Thing) → eval e env ≡ done y → eval g ((z.sym.0, y) ∷ env) ≡ done v → starts_none q e ≡ true → starts_none ((z.sym.0, origin e q) ∷ q) g ≡ true → IsWellFormed typed.0 → HasForm (origin e q) typed.0
          → (takes e q s w ≡ true) ⊎ ((if z.sym.0 == s then false else takes g ((z.sym.0, origin e q) ∷ q) s w) ≡ true) → Fails (hand consumed (origin (let_in a z e g) q) v)
      by y ey ev se sg formed form (inl k) =
          let b = breaks consumed (origin e q) y (value_stays h q typed.0 env s w x y typed.1 keeps.0 splits.0 se r k ey) in
          body_stays ((z.sym.0, typed.0) ∷ h) ((z.sym.0, origin e q) ∷ q) t ((z.sym.0, y) ∷ env) z.sym.0 b.0 y v typed.3 keeps.1 splits.1 sg
          (breaking_here h q env z.sym.0 typed.0 (origin e q) b.0 y formed form r.formed r.forms b.2) (splits.3.all b.0 b.1) ev
      by y ey ev se sg formed form (inr k) = other (cases_eq s z.sym.0)
        where
          other : (s ≡ z.sym.0) ⊎ (s ≡ z.sym.0 → ⊥) → Fails (hand consumed (origin (let_in a z e g) q) v)
          other (inl same) = let k2 : false ≡ true = (rw (eq-eqb z.sym.0 s (sym same)) at k) in let nothing : ⊥ = cc in absurd nothing
          other (inr ne) =
              body_stays ((z.sym.0, typed.0) ∷ h) ((z.sym.0, origin e q) ∷ q) t ((z.sym.0, y) ∷ env) s w x v typed.3 keeps.1 splits.1 sg
              (breaking_behind h q env s z.sym.0 typed.0 (origin e q) w x y ne formed form r) (rw (ne_eqb z.sym.0 s (λ c. ne (sym c))) at k) ev

  -- forms of three parts by their parts: arms take alike
  three_stays : (a : At) (o : Three) (c e g : ExprTree) → Stays c → Stays e → Stays g → Stays (three a o c e g)
  three_stays a o c e g first second third h q t env s w x v typed keeps splits starts r taken ev =
      let y = then_done_by (eval c env) (λ y. three_thing o y (eval e env) (eval g env)) v ev in
      let st = and_true (starts_none q c) (starts_none q e && starts_none q g) starts in
      let su = and_true (starts_none q e) (starts_none q g) st.1 in
      by (or_true (takes c q s w) (takes e q s w || takes g q s w) taken) y.0 y.1 y.2 st.0 su.0 su.1
    where
      arm : (k : Three) → (y : Thing) → three_thing k y (eval e env) (eval g env) ≡ done v → ThreeKeeps k e g q → ThreeSplits k (takes e q) (takes g q)
          → (takes e q s w ≡ true) ⊎ (takes g q s w ≡ true) → ((z : Thing) → takes e q s w ≡ true → eval e env ≡ done z → Fails (hand consumed (origin e q) z))
          → ((z : Thing) → takes g q s w ≡ true → eval g env ≡ done z → Fails (hand consumed (origin g q) z)) → Fails (hand consumed (three_origin k (origin e q)) v)
      arm if_else y en keep split either f l = which (chosen_by y v (eval e env) (eval g env) en)
        where
          both : (takes e q s w ≡ true) × (takes g q s w ≡ true)
          both = alike either
            where
              alike : (takes e q s w ≡ true) ⊎ (takes g q s w ≡ true) → (takes e q s w ≡ true) × (takes g q s w ≡ true)
              alike (inl k) = (k, sym (split.alike s w) ∙ k)
              alike (inr k) = (split.alike s w ∙ k, k)

          which : (eval e env ≡ done v) ⊎ (eval g env ≡ done v) → Fails (hand consumed (origin e q) v)
          which (inl z) = f v both.0 z
          which (inr z) = subst (λ z. Fails (hand consumed z v)) (sym (same_origins e g q keep.same)) (l v both.1 z)
      arm select y en keep split (inl k) f l = let p = (later_plain _ y v (eval e env) (eval g env) en).0 in absurd (no_value (origin e q) p.0 (f (plain p.0) k p.1))
      arm select y en keep split (inr k) f l = let p = (later_plain _ y v (eval e env) (eval g env) en).1 in absurd (no_value (origin g q) p.0 (l (plain p.0) k p.1))
      arm slice y en keep split (inl k) f l = let p = (later_plain _ y v (eval e env) (eval g env) en).0 in absurd (no_value (origin e q) p.0 (f (plain p.0) k p.1))
      arm slice y en keep split (inr k) f l = let p = (later_plain _ y v (eval e env) (eval g env) en).1 in absurd (no_value (origin g q) p.0 (l (plain p.0) k p.1))

      by : (takes c q s w ≡ true) ⊎ ((takes e q s w || takes g q s w) ≡ true) → (y : Thing) → eval c env ≡ done y → three_thing o y (eval e env) (eval g env) ≡ done v
          → starts_none q c ≡ true → starts_none q e ≡ true → starts_none q g ≡ true → Fails (hand consumed (three_origin o (origin e q)) v)
      by (inl k) y ey en sc se sg =
          absurd (no_plain (origin c q) y (first_of_three_plain o y v (eval e env) (eval g env) en) (first h q typed.0 env s w x y typed.3 keeps.0 splits.0 sc r k ey))
      by (inr k) y ey en sc se sg =
          arm o y en keeps.3 splits.5 (or_true (takes e q s w) (takes g q s w) k) (λ z k ez. second h q typed.1 env s w x z typed.4 keeps.1 splits.1 se r k ez)
          (λ z k ez. third h q typed.2 env s w x z typed.5 keeps.2 splits.2 sg r k ez)

  -- forms of two parts by their parts
  two_stays : (a : At) (o : Two) (e g : ExprTree) → Stays e → Stays g → Stays (two a o e g)
  two_stays a o e g first second h q t env s w x v typed keeps splits starts r taken ev =
      let y = then_done_by (eval e env) (λ y. two_thing o y (eval g env)) v ev in
      let st = and_true (starts_none q e) (starts_none q g) starts in
      by (or_true (takes e q s w) (takes g q s w) taken) y.0 y.1 y.2 st.0 st.1
    where
      by : (takes e q s w ≡ true) ⊎ (takes g q s w ≡ true) → (y : Thing) → eval e env ≡ done y → two_thing o y (eval g env) ≡ done v → starts_none q e ≡ true → starts_none q g ≡ true
          → Fails (hand consumed (two_origin o (origin e q)) v)
      by (inl k) y ey en se sg = first_of_two_stays o (origin e q) y v (eval g env) en (first h q typed.0 env s w x y typed.2 keeps.0 splits.0 se r k ey)
      by (inr k) y ey en se sg =
          let p = second_of_two_plain o y v (eval g env) (takes g q) s w splits.3 k en in
          absurd (no_value (origin g q) p.0 (second h q typed.1 env s w x (plain p.0) typed.3 keeps.1 splits.1 sg r k p.1))

  -- forms of one part by their part
  one_stays : (a : At) (o : One) (e : ExprTree) → Stays e → Stays (one a o e)
  one_stays a o e part h q t env s w x v typed keeps splits starts r taken ev = by (chain_of_one o (chain_of e)) refl taken
    where
      y : (y : Thing) × (eval e env ≡ done y) × (one_thing o y ≡ done v)
      y = then_done_by (eval e env) (one_thing o) v ev

      by : (m : Option (ℕ × Path)) → chain_of_one o (chain_of e) ≡ m → chain_takes m q s w (takes e q s w) ≡ true → Fails (hand consumed (one_origin o (origin e q)) v)
      by (Some c) k l = chain_stays q env s w x v (one a o e) c k taken r.there r.broken ev
      by None k l =
          absurd (one_stops o e (origin e q) typed.0 t y.0 v typed.2 (type_formed e h typed.0 typed.1 r.formed) (origin_forms e q h typed.0 typed.1 r.formed r.forms) keeps.1 splits.1 k y.2
          (part h q typed.0 env s w x y.0 typed.1 keeps.0 splits.0 starts r l y.1))

  -- names, and leaves that take nothing
  leaf_stays : (a : At) (l : Leaf) → Stays (leaf a l)
  leaf_stays a l h q t env s w x v typed keeps splits starts r taken ev = by (chain_of_leaf l) refl taken
    where
      by : (m : Option (ℕ × Path)) → chain_of_leaf l ≡ m → chain_takes m q s w false ≡ true → Fails (hand consumed (leaf_origin l q) v)
      by (Some c) k n = chain_stays q env s w x v (leaf a l) c k taken r.there r.broken ev
      by None k n = let nothing : ⊥ = cc in absurd nothing

  mutual
    -- what takes a broken path of a name answers what can't be handed on
    pub stays : (e : ExprTree) → Stays e
    stays (leaf a l) h q t env s w x v typed keeps splits starts r taken ev = leaf_stays a l h q t env s w x v typed keeps splits starts r taken ev
    stays (one a o e) h q t env s w x v typed keeps splits starts r taken ev = one_stays a o e (stays e) h q t env s w x v typed keeps splits starts r taken ev
    stays (two a o e g) h q t env s w x v typed keeps splits starts r taken ev = two_stays a o e g (stays e) (stays g) h q t env s w x v typed keeps splits starts r taken ev
    stays (three a o c e g) h q t env s w x v typed keeps splits starts r taken ev = three_stays a o c e g (stays c) (stays e) (stays g) h q t env s w x v typed keeps splits starts r taken ev
    stays (many a o es) h q t env s w x v typed keeps splits starts r taken ev =
        let y = then_done_by (eval_all es env) (many_thing o) v ev in
        many_stays o (origins es q) y.0 v y.2 (all_stay es h q typed.0 env s w x y.0 typed.1 keeps splits starts r taken y.1)
    stays (let_in a z e g) h q t env s w x v typed keeps splits starts r taken ev = let_stays a z e g (stays e) (stays g) h q t env s w x v typed keeps splits starts r taken ev
    stays (loop a ls e b m y g) h q t env s w x v typed keeps splits starts r taken ev =
        let st = and_true (not (holds (origin e q))) (legs_start_none q ls && starts_none q e) starts in
        let su = and_true (legs_start_none q ls) (starts_none q e) st.1 in
        let l = then_done_by (eval_legs ls env) (λ legs. and_then (rows_of legs) (λ rows. and_then (eval e env) (λ z. run (number_from 0 rows) z (λ row u. eval g (with_row b m y u (plain (whole_number row.0)) (plain row.1) env))))) v ev in
        let rs = then_done_by (rows_of l.0) (λ rows. and_then (eval e env) (λ z. run (number_from 0 rows) z (λ row u. eval g (with_row b m y u (plain (whole_number row.0)) (plain row.1) env)))) v l.2 in
        let z = then_done_by (eval e env) (λ z. run (number_from 0 rs.0) z (λ row u. eval g (with_row b m y u (plain (whole_number row.0)) (plain row.1) env))) v rs.2 in
        loop_stops (legs_take ls q s w) (takes e q s w) (origin e q) z.0 v st.0 taken (λ k. legs_stop ls h q typed.0 env s w x l.0 typed.2 keeps.0 splits.0 su.0 r k l.1)
        (λ k. stays e h q t env s w x z.0 typed.4 keeps.1 splits.1 su.1 r k z.1)
    stays (iterate a e b g) h q t env s w x v typed keeps splits starts r taken ev =
        let y = then_done_by (value_out (eval e env)) (λ y. map_out plain (turns turn_limit y (λ z. value_out (eval g ((b.sym.0, plain z) ∷ env))))) v ev in
        absurd (no_value (origin e q) y.0 (stays e h q t env s w x (plain y.0) typed.0 keeps.0 splits.0 starts r taken (value_out_by (eval e env) y.0 y.1)))

    -- one of the parts takes it
    all_stay : (es : ExprTrees) (h : Types) (q : Named Origin) (us : TypeTrees) (env : Env) (s : ℕ) (w : Path) (x : Thing) (ts : Things)
        → HaveTypes es h us → AllKeep es q → AllSplit es q → all_start_none q es ≡ true → Breaking h q env s w x → some_take es q s w ≡ true → eval_all es env ≡ done ts → Fails (hand_all consumed (origins es q) ts)
    all_stay no_exprs h q us env s w x ts typed keep split starts r taken ev = let nothing : ⊥ = cc in absurd nothing
    all_stay (more_exprs e es) h q no_types env s w x ts typed keep split starts r taken ev = absurd typed
    all_stay (more_exprs e es) h q (more_types u us) env s w x ts typed keep split starts r taken ev =
        let st = and_true (starts_none q e) (all_start_none q es) starts in
        let y = then_done_by (eval e env) (λ y. map_out (more_things y) (eval_all es env)) ts ev in
        let ys = map_done_by (eval_all es env) (more_things y.0) ts y.2 in
        subst (λ z. Fails (hand_all consumed (more_origins (origin e q) (origins es q)) z)) ys.2
        (more_stay (takes e q s w) (some_take es q s w) (origin e q) (origins es q) y.0 ys.0 taken (λ k. stays e h q u env s w x y.0 typed.0 keep.0 split.0 st.0 r k y.1)
        (λ k. all_stay es h q us env s w x ys.0 typed.1 keep.1 split.1 st.1 r k ys.1))

    -- no leg takes a broken path
    leg_stops : (l : LegTree) (h : Types) (q : Named Origin) (u : TypeTree) (env : Env) (s : ℕ) (w : Path) (x : Thing) (vs : List Value)
        → LegHas l h u → LegKeeps l q → LegSplits l q → leg_starts_none q l ≡ true → Breaking h q env s w x → leg_takes l q s w ≡ true → eval_leg l env ≡ done vs → ⊥
    leg_stops (whole e) h q u env s w x vs typed keeps splits starts r taken ev =
        let y = then_done_by (value_out (eval e env)) elements_of vs ev in
        no_value (origin e q) y.0 (stays e h q (vec u) env s w x (plain y.0) typed keeps splits starts r taken (value_out_by (eval e env) y.0 y.1))
    leg_stops (strided e g k j) h q u env s w x vs typed keeps splits starts r taken ev =
        let sa = and_true (starts_none q e) (starts_none q g && (starts_none q k && starts_none q j)) starts in
        let sb = and_true (starts_none q g) (starts_none q k && starts_none q j) sa.1 in
        let sc = and_true (starts_none q k) (starts_none q j) sb.1 in
        let ya = then_done_by (value_out (eval e env)) (λ v. and_then (value_out (eval g env)) (λ from. and_then (value_out (eval k env)) (λ to. and_then (value_out (eval j env)) (λ d. strided_of v from to d)))) vs ev in
        let yb = then_done_by (value_out (eval g env)) (λ from. and_then (value_out (eval k env)) (λ to. and_then (value_out (eval j env)) (λ d. strided_of ya.0 from to d))) vs ya.2 in
        let yc = then_done_by (value_out (eval k env)) (λ to. and_then (value_out (eval j env)) (λ d. strided_of ya.0 yb.0 to d)) vs yb.2 in
        let yd = then_done_by (value_out (eval j env)) (λ d. strided_of ya.0 yb.0 yc.0 d) vs yc.2 in
        four_stop (takes e q s w) (takes g q s w) (takes k q s w) (takes j q s w) taken
        (λ c. no_value (origin e q) ya.0 (stays e h q (vec u) env s w x (plain ya.0) typed.0 keeps.0 splits.0 sa.0 r c (value_out_by (eval e env) ya.0 ya.1)))
        (λ c. no_value (origin g q) yb.0 (stays g h q place_type env s w x (plain yb.0) typed.1 keeps.1 splits.1 sb.0 r c (value_out_by (eval g env) yb.0 yb.1)))
        (λ c. no_value (origin k q) yc.0 (stays k h q place_type env s w x (plain yc.0) typed.2 keeps.2 splits.2 sc.0 r c (value_out_by (eval k env) yc.0 yc.1)))
        (λ c. no_value (origin j q) yd.0 (stays j h q place_type env s w x (plain yd.0) typed.3 keeps.3 splits.3 sc.1 r c (value_out_by (eval j env) yd.0 yd.1)))

    -- nor do any legs
    legs_stop : (ls : LegTrees) (h : Types) (q : Named Origin) (us : TypeTrees) (env : Env) (s : ℕ) (w : Path) (x : Thing) (vs : List (List Value))
        → LegsHave ls h us → LegsKeep ls q → LegsSplit ls q → legs_start_none q ls ≡ true → Breaking h q env s w x → legs_take ls q s w ≡ true → eval_legs ls env ≡ done vs → ⊥
    legs_stop no_legs h q us env s w x vs typed keep split starts r taken ev = let nothing : ⊥ = cc in nothing
    legs_stop (more_legs l ls) h q no_types env s w x vs typed keep split starts r taken ev = typed
    legs_stop (more_legs l ls) h q (more_types u us) env s w x vs typed keep split starts r taken ev =
        let st = and_true (leg_starts_none q l) (legs_start_none q ls) starts in
        let y = then_done_by (eval_leg l env) (λ y. map_out (λ rest. y ∷ rest) (eval_legs ls env)) vs ev in
        let ys = map_done_by (eval_legs ls env) (λ rest. y.0 ∷ rest) vs y.2 in
        either_stops (leg_takes l q s w) (legs_take ls q s w) taken (λ k. leg_stops l h q u env s w x y.0 typed.0 keep.0 split.0 st.0 r k y.1)
        (λ k. legs_stop ls h q us env s w x ys.0 typed.1 keep.1 split.1 st.1 r k ys.1)
