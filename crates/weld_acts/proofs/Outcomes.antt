-- Outcomes and runs that are the same step by step.
use Rattle.std.proofs.Common.{◌≡◌, List, [], ◌∷◌, refl, ap, ◌∙◌}
use Rattle.weld_tree.specs.TypeTree.{TypeTree}
use Rattle.weld_tree.specs.HasValue.{HasValue}
use Rattle.weld_builders.specs.Outcome.{Outcome, done, fault, stuck, and_then, map_out}
use Rattle.weld_meaning.specs.Thing.{Thing}
use Rattle.weld_meaning.specs.Evaluation.{Row, run}
use Rattle.weld_meaning.specs.Loops.{RowsHave}

pub then_same : {A B : Type 0} (o : Outcome A) (f g : A → Outcome B) → ((x : A) → o ≡ done x → f x ≡ g x) → and_then o f ≡ and_then o g
then_same (done x) f g k = k x refl
then_same fault f g k = refl
then_same stuck f g k = refl

pub then_done : {A B : Type 0} (f : A → B) (o : Outcome A) → and_then o (λ x. done (f x)) ≡ map_out f o
then_done f (done x) = refl
then_done f fault = refl
then_done f stuck = refl

-- rows that make the same of each thing that they can come to make the same together
pub run_same : (r : TypeTree) (P : Thing → Type 0) (f g : Row → Thing → Outcome Thing)
    → ((row : Row) (s : Thing) → HasValue r row.1 → P s → f row s ≡ g row s) → ((row : Row) (s t : Thing) → HasValue r row.1 → P s → f row s ≡ done t → P t)
    → (rows : List Row) (s : Thing) → RowsHave r rows → P s → run rows s f ≡ run rows s g
run_same r P f g same keeps [] s h p = refl
run_same r P f g same keeps (row ∷ rows) s h p =
    then_same (f row s) (λ t. run rows t f) (λ t. run rows t g) (λ t q. run_same r P f g same keeps rows t h.1 (keeps row s t h.0 p q))
    ∙ ap (λ o. and_then o (λ t. run rows t g)) (same row s h.0 p)
