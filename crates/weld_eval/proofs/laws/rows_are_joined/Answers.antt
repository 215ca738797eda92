use Rattle.weld_eval.proofs.LoopSteps.{step, row_joins}
use Rattle.weld_eval.proofs.laws.rows_are_joined.Goals as goal

pub returns : goal.returns
returns c = record { joined = step; join = row_joins }
