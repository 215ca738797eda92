use Rattle.std.proofs.Common.{length}
use Rattle.weld_share.proofs.Cutting.{HasCut}
use Rattle.weld_share.proofs.stretch.stretches.Given as goal

abbrev pub invariant-cut : goal.invariant-cut
invariant-cut l = HasCut l.rows l.list.items l.lo l.left

abbrev pub decreases-cut : goal.decreases-cut
decreases-cut l = length l.left
