use Rattle.std.proofs.Common.{length}
use Rattle.weld_linear.proofs.source.Source.+follow.Given as goal

abbrev pub decreases-follow : goal.decreases-follow
decreases-follow l = length l.path.now
