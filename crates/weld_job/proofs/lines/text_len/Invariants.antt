use Rattle.std.proofs.Common.{length, ◌-◌}
use Rattle.weld_job.specs.Blocks.{is_separator}
use Rattle.weld_job.proofs.Cutting.{Passed}
use Rattle.weld_job.proofs.lines.text_len.Given as goal

abbrev pub invariant-loop-at : goal.invariant-loop-at
invariant-loop-at l = Passed is_separator l.job l.at

abbrev pub decreases-loop-at : goal.decreases-loop-at
decreases-loop-at l = length l.job - l.at
