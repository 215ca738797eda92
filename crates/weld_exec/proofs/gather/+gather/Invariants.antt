use Rattle.std.proofs.Common.{length}
use Rattle.weld_exec.proofs.gather.+gather.Given as goal

abbrev pub decreases-gather : goal.decreases-gather
decreases-gather l = length l.legs.now
