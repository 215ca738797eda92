-- What a body gives on a row: lists, and the rows that another loop makes of them.
use Rattle.std.proofs.Common.{◌≡◌, ℕ, suc, List, [], ◌∷◌, ◌++◌, refl, ap, subst, ◌∙◌}
use Rattle.weld_data.specs.Value.{Value, values, list_of_values-values}
use Rattle.weld_tree.specs.TypeTree.{TypeTree, build, list}
use Rattle.weld_tree.specs.HasValue.{HasValue, AllAre}
use Rattle.weld_builders.specs.Outcome.{Outcome, done, fault, stuck, and_then, map_out}
use Rattle.weld_builders.specs.Part.{list_part, total_part, totals_part, cells_part, keyed_part, groups_part}
use Rattle.weld_meaning.specs.Thing.{Thing, plain, building, several, after_thing}
use Rattle.weld_meaning.specs.ThingType.{HasThing}
use Rattle.weld_meaning.specs.Evaluation.{Row, number_from, run}
use Rattle.weld_meaning.specs.Loops.{RowsHave}
use Rattle.weld_meaning.specs.Meaning.{GivesOrFaults}
use Rattle.weld_meaning.specs.Names.{answer_of}
use Rattle.weld_meaning.proofs.NeverStuck.{Of}
use Rattle.weld_vertical.proofs.Handing.{list_of, elements_made}
use Rattle.weld_handing.proofs.Row.{at_number, list_in}

-- ---- outcomes

pub then_by : {A B : Type 0} (o : Outcome A) (f : A → Outcome B) (y : B) → and_then o f ≡ done y → (x : A) × (o ≡ done x) × (f x ≡ done y)
then_by (done x) f y h = (x, refl, h)
then_by fault f y h = let nothing : ⊥ = cc in absurd nothing
then_by stuck f y h = let nothing : ⊥ = cc in absurd nothing

pub fits_done : {A : Type 0} (P : A → Type 0) (o : Outcome A) (x : A) → GivesOrFaults P o → o ≡ done x → P x
fits_done P o x h e = subst (GivesOrFaults P) e h

-- ---- lists

pub all_append : (P : Value → Type 0) (vs us : List Value) → AllAre P (values vs) → AllAre P (values us) → AllAre P (values (vs ++ us))
all_append P [] us h k = k
all_append P (v ∷ vs) us h k = (h.0, all_append P vs us h.1 k)

-- a thing of the list's type is a list of items
pub listed : (item : TypeTree) (z : Thing) (us : List Value) → HasThing z (build (list item)) → list_in z ≡ done us → AllAre (HasValue item) (values us)
listed item (plain v) us h e = let nothing : ⊥ = cc in absurd nothing
listed item (building (list_part vs)) us h e = let same : vs ≡ us = cc in subst (λ y. AllAre (HasValue item) (values y)) same h.1
listed item (building (total_part op kind y)) us h e = let nothing : ⊥ = cc in absurd nothing
listed item (building (totals_part op ys)) us h e = let nothing : ⊥ = cc in absurd nothing
listed item (building (cells_part op kind ys)) us h e = let nothing : ⊥ = cc in absurd nothing
listed item (building (keyed_part op kind m)) us h e = let nothing : ⊥ = cc in absurd nothing
listed item (building (groups_part m)) us h e = let nothing : ⊥ = cc in absurd nothing
listed item (several ts) us h e = let nothing : ⊥ = cc in absurd nothing

-- joined behind a list it is the longer list
pub join_list : (item : TypeTree) (vs : List Value) (z : Thing) → HasThing z (build (list item)) → done (after_thing (list_of vs) z) ≡ map_out (λ us. list_of (vs ++ us)) (list_in z)
join_list item vs (plain v) h = absurd h
join_list item vs (building (list_part us)) h = refl
join_list item vs (building (total_part op kind y)) h = absurd h.1
join_list item vs (building (totals_part op ys)) h = absurd h.1
join_list item vs (building (cells_part op kind ys)) h = absurd h.1
join_list item vs (building (keyed_part op kind m)) h = absurd h.1
join_list item vs (building (groups_part m)) h = absurd h.1
join_list item vs (several ts) h = absurd h

pub append_list : (item : TypeTree) (vs : List Value) (o : Outcome Thing) → GivesOrFaults (Of (build (list item))) o → map_out (after_thing (list_of vs)) o ≡ map_out (λ us. list_of (vs ++ us)) (and_then o list_in)
append_list item vs (done z) h = join_list item vs z h
append_list item vs fault h = refl
append_list item vs stuck h = absurd h

pub elements_through : {A : Type 0} (o : Outcome A) (f : A → Outcome Thing) → elements_made (and_then o f) ≡ and_then o (λ x. elements_made (f x))
elements_through (done x) f = refl
elements_through fault f = refl
elements_through stuck f = refl

pub elements_listed : (o : Outcome (List Value)) → elements_made (map_out (λ ws. list_of ws) o) ≡ o
elements_listed (done ws) = ap done (list_of_values-values ws)
elements_listed fault = refl
elements_listed stuck = refl

-- ---- rows

-- bodies that answer alike on rows and builders of their types
pub run_alike : (t item : TypeTree) (f h : Row → Thing → Outcome Thing) → ((y : Row) (s : Thing) → HasValue item y.1 → HasThing s t → answer_of (f y s) ≡ answer_of (h y s)) → ((y : Row) (s z : Thing) → HasValue item y.1 → HasThing s t → f y s ≡ done z → HasThing z t) → (rows : List Row) (s : Thing) → RowsHave item rows → HasThing s t → answer_of (run rows s f) ≡ answer_of (run rows s h)
run_alike t item f h e stay [] s r p = refl
run_alike t item f h e stay (y ∷ ys) s r p = by (f y s) (h y s) refl (e y s r.0 p) (λ z q. run_alike t item f h e stay ys z r.1 q)
  where
    by : (o u : Outcome Thing) → f y s ≡ o → answer_of o ≡ answer_of u → ((z : Thing) → HasThing z t → answer_of (run ys z f) ≡ answer_of (run ys z h)) → answer_of (and_then o (λ z. run ys z f)) ≡ answer_of (and_then u (λ z. run ys z h))
    by (done z) (done v) q l rest =
        let same : z ≡ v = cc in rest z (stay y s z r.0 p q) ∙ ap (λ b. answer_of (run ys b h)) same
    by (done z) fault q l rest = let nothing : ⊥ = cc in absurd nothing
    by (done z) stuck q l rest = let nothing : ⊥ = cc in absurd nothing
    by fault (done v) q l rest = let nothing : ⊥ = cc in absurd nothing
    by fault fault q l rest = refl
    by fault stuck q l rest = refl
    by stuck (done v) q l rest = let nothing : ⊥ = cc in absurd nothing
    by stuck fault q l rest = refl
    by stuck stuck q l rest = refl

-- where a row's number doesn't count
pub run_any : (f : Row → Thing → Outcome Thing) → ((l j : ℕ) (v : Value) (s : Thing) → f (l, v) s ≡ f (j, v) s) → (l j : ℕ) (vs : List Value) (s : Thing) → run (at_number l vs) s f ≡ run (number_from j vs) s f
run_any f any l j [] s = refl
run_any f any l j (v ∷ vs) s = λ b. and_then (any l j v s b) (λ z. run_any f any l (suc j) vs z b)
