use Rattle.std.proofs.Common.{length, ◌-◌}
use Rattle.weld_job.specs.Blocks.{is_header}
use Rattle.weld_job.proofs.Cutting.{Passed}
use Rattle.weld_job.proofs.lines.content_len.Given as goal

abbrev pub invariant-loop-at : goal.invariant-loop-at
invariant-loop-at l = Passed is_header l.bytes l.at

abbrev pub decreases-loop-at : goal.decreases-loop-at
decreases-loop-at l = length l.bytes - l.at
