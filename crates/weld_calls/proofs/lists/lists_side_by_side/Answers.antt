use Rattle.weld_calls.proofs.Keys.{fault_apart, apart_fault}
use Rattle.weld_calls.proofs.lists.lists_side_by_side.Goals as goal

pub returns : goal.returns
returns c = λ xs ys. (fault_apart xs ys, apart_fault xs ys)
