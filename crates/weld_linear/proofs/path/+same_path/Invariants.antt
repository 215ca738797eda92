use Rattle.std.proofs.Common.{length}
use Rattle.weld_linear.proofs.path.+same_path.Given as goal

abbrev pub decreases-same_path : goal.decreases-same_path
decreases-same_path l = length l.path.now
