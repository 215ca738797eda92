use Rattle.std.proofs.Common.{length}
use Rattle.weld_check_types.proofs.type_walk.program.+body_under.Given as goal

abbrev pub decreases-body_under : goal.decreases-body_under
decreases-body_under l = length l.params.now
