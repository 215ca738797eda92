use Rattle.std.proofs.Common.{length, ◌-◌}
use Rattle.weld_job.proofs.Cutting.{Found}
use Rattle.weld_job.proofs.split.cut_blocks.Given as goal

abbrev pub invariant-loop-at : goal.invariant-loop-at
invariant-loop-at l = Found l.bytes l.start l.extents.items l.at

abbrev pub decreases-loop-at : goal.decreases-loop-at
decreases-loop-at l = length l.bytes - l.at
