-- Many numbers merged one after another.
use Rattle.std.specs.Prelude.{◌≡◌, ℤ, List, [], ◌∷◌, Result, Ok, Err}
use Rattle.weld_data.specs.declared.kind.Kind.{Kind}
use Rattle.weld_data.specs.declared.op.MergeOp.{MergeOp}
use Rattle.weld_data.specs.declared.stop.Stop.{Stop}
use Rattle.weld_data.specs.declared.stop.Stop.TheVariants.{Fault, Memory}
use Rattle.weld_builders.specs.Outcome.{Outcome, done, fault, and_then}
use Rattle.weld_builders.specs.Part.{merge_cell}

-- numbers merged into the cells at indexes, the first one first, up to a fault
abbrev pub merged_cells : MergeOp → Kind → List ℤ → List (ℤ × ℤ) → Outcome (List ℤ)
merged_cells op kind xs [] = done xs
merged_cells op kind xs (e ∷ es) = and_then (merge_cell op kind xs e.0 e.1) (λ ys. merged_cells op kind ys es)

-- what such merges answer: Ok, what the cells are then; a fault, that one of them is a fault; they never want memory
abbrev pub CellsAnswer : {T : Type 0} → Result T Stop → Outcome (List ℤ) → List ℤ → Type 0
CellsAnswer (Ok x) o new = o ≡ done new
CellsAnswer (Err Fault) o new = o ≡ fault
CellsAnswer (Err Memory) o new = ⊥
