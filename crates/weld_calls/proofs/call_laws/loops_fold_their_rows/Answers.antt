use Rattle.weld_data.specs.Value.{Value}
use Rattle.weld_calls.proofs.LoopLaw.{gathered_is}
use Rattle.weld_calls.proofs.call_laws.loops_fold_their_rows.Goals as goal

pub returns : goal.returns
returns c = gathered_is {A = Value}
