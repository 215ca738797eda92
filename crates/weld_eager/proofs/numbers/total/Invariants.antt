use Rattle.std.proofs.Common.{◌≡◌, take}
use Rattle.weld_data.specs.Kind.{InRange}
use Rattle.weld_data.specs.Operation.{start_of}
use Rattle.weld_calls.specs.Folds.{combined_all}
use Rattle.weld_eager.proofs.numbers.total.Given as goal

abbrev pub invariant-loop-x : goal.invariant-loop-x
invariant-loop-x l = (l.value ≡ combined_all l.op l.kind (start_of l.op l.kind) (take l.x-index l.xs)) × InRange l.kind l.value
