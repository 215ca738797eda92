-- Outcomes that are the same wherever what they go by is of its type.
use Rattle.std.proofs.Common.{◌≡◌, ℕ, zero, suc, refl, ap, ◌∙◌, Bool, true, false, if◌then◌else◌, List, [], ◌∷◌}
use Rattle.weld_data.specs.Value.{Value}
use Rattle.weld_tree.specs.TypeTree.{TypeTree, no_types, more_types}
use Rattle.weld_tree.specs.HasValue.{HasValue}
use Rattle.weld_builders.specs.Outcome.{Outcome, done, fault, stuck, and_then}
use Rattle.weld_meaning.specs.Thing.{Thing, value_field}
use Rattle.weld_meaning.specs.Evaluation.{Row, run, turns, next_turn, truth_of}
use Rattle.weld_meaning.specs.Meaning.{GivesOrFaults}
use Rattle.weld_meaning.specs.Loops.{RowsHave}
use Rattle.weld_meaning.specs.Typing.{truth_type}
use Rattle.weld_meaning.proofs.Good.{Good}
use Rattle.weld_meaning.proofs.ValuesGood.{value_field_good, truth_of_good, turn_type}

then_at : {A B : Type 0} (P : A → Type 0) (o : Outcome A) (f k : A → Outcome B) → GivesOrFaults P o → ((x : A) → P x → f x ≡ k x) → and_then o f ≡ and_then o k
then_at P (done x) f k h e = e x h
then_at P fault f k h e = refl
then_at P stuck f k h e = absurd h

-- what goes on alike on each result that there may be
pub then_same : {A B : Type 0} (P : A → Type 0) (o : Outcome A) (f k : A → Outcome B) → Good P o → ((x : A) → P x → f x ≡ k x) → and_then o f ≡ and_then o k
then_same P o f k h e = then_at P o f k h.fits e

pub run_same : (r : TypeTree) (P : Thing → Type 0) (f k : Row → Thing → Outcome Thing) → ((row : Row) (s : Thing) → HasValue r row.1 → P s → Good P (f row s)) → ((row : Row) (s : Thing) → HasValue r row.1 → P s → f row s ≡ k row s) → (rows : List Row) (s : Thing) → RowsHave r rows → P s → run rows s f ≡ run rows s k
run_same r P f k g e [] s h p = refl
run_same r P f k g e (row ∷ rows) s h p =
    then_same P (f row s) (λ t. run rows t f) (λ t. run rows t k) (g row s h.0 p) (λ t q. run_same r P f k g e rows t h.1 q)
    ∙ ap (λ o. and_then o (λ t. run rows t k)) (e row s h.0 p)

next_same : (t : TypeTree) (w : Value) (go further : Value → Outcome Value) → HasValue (turn_type t) w → ((v : Value) → HasValue t v → go v ≡ further v) → next_turn w go ≡ next_turn w further
next_same t w go further p e =
    then_same (HasValue t) (value_field 0 w) _ _ (value_field_good 0 (more_types t (more_types truth_type no_types)) t w refl p) (λ state q.
    then_same (HasValue truth_type) (value_field 1 w) _ _ (value_field_good 1 (more_types t (more_types truth_type no_types)) truth_type w refl p) (λ flag r.
    then_same (λ more. Unit {0}) (truth_of flag) _ _ (truth_of_good flag r) (λ more u. by state q more)))
  where
    by : (state : Value) → HasValue t state → (more : Bool) → ◌≡◌ {A = Outcome Value} (if more then go state else done state) (if more then further state else done state)
    by state q true = e state q
    by state q false = refl

pub turns_same : (t : TypeTree) (f k : Value → Outcome Value) → ((v : Value) → HasValue t v → Good (HasValue (turn_type t)) (f v)) → ((v : Value) → HasValue t v → f v ≡ k v) → (n : ℕ) (v : Value) → HasValue t v → turns n v f ≡ turns n v k
turns_same t f k g e zero v h = refl
turns_same t f k g e (suc n) v h =
    then_same (HasValue (turn_type t)) (f v) _ _ (g v h) (λ w p. next_same t w (λ state. turns n state f) (λ state. turns n state k) p (λ state q. turns_same t f k g e n state q))
    ∙ ap (λ o. and_then o (λ w. next_turn w (λ state. turns n state k))) (e v h)
