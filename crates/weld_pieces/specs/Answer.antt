-- What a merge answers, by what it means: done, or a fault.
use Rattle.std.specs.Prelude.{◌≡◌, ℕ, ◌≤◌, ℤ, pos, negsuc, List, Result, Ok, Err}
use Rattle.weld_data.specs.declared.stop.Stop.{Stop}
use Rattle.weld_data.specs.declared.stop.Stop.TheVariants.{Fault, Memory}
use Rattle.weld_builders.specs.Outcome.{Outcome, done, fault}
use Rattle.weld_builders.specs.Builder.{Builder}

-- Ok says that the merge is done with the builder that is there afterwards; a fault, that it is a fault, and want of memory says nothing; both leave what was there
abbrev pub Merged : {T : Type 0} → Result T Stop → Outcome Builder → Builder → Builder → Type 0
Merged (Ok x) o old new = o ≡ done new
Merged (Err Fault) o old new = (o ≡ fault) × (new ≡ old)
Merged (Err Memory) o old new = new ≡ old

-- the answer isn't want of memory
abbrev pub NotMemory : {T : Type 0} → Result T Stop → Type 0
NotMemory (Ok x) = Unit {0}
NotMemory (Err Fault) = Unit {0}
NotMemory (Err Memory) = ⊥

-- what a merge into a cell answers: Ok, what the cells are then; a fault, that the index is outside; it never wants memory
abbrev pub CellAnswer : {T : Type 0} → Result T Stop → Outcome (List ℤ) → List ℤ → List ℤ → Type 0
CellAnswer (Ok x) o old new = o ≡ done new
CellAnswer (Err Fault) o old new = (o ≡ fault) × (new ≡ old)
CellAnswer (Err Memory) o old new = ⊥

-- the index names none of so many cells
abbrev pub IsOutside : ℤ → ℕ → Type 0
IsOutside (pos i) count = count ≤ i
IsOutside (negsuc i) count = Unit {0}
