use Rattle.weld_meaning.proofs.LoopLaw.{run-append}
use Rattle.weld_meaning.proofs.laws.loops_go_row_by_row.Goals as goal

pub returns : goal.returns
returns c = run-append
