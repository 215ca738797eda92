use Rattle.std.proofs.Common.{length}
use Rattle.weld_exec.proofs.gather.+drop_legs.Given as goal

abbrev pub decreases-drop_legs : goal.decreases-drop_legs
decreases-drop_legs l = length l.legs.now
