use Rattle.weld_front.proofs.Counts.{never_rises}
use Rattle.weld_front.proofs.sure.weld_surely.Goals as goal

pub returns-clause-complete : goal.returns-clause-complete
returns-clause-complete g c = λ served. c.weld_main.ensures.complete served never_rises never_rises
