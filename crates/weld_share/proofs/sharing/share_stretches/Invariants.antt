use Rattle.std.proofs.Common.{◌≡◌, ◌≤◌, ◌-◌, ℕ, drop, length}
use Rattle.weld_tile_parts.specs.Parts.{joined_evaluation, IsWhole}
use Rattle.weld_exec.specs.Run.{evaluation_of, rows_at}
use Rattle.weld_share.specs.Stretches.{AreStretches}
use Rattle.weld_share.proofs.sharing.share_stretches.Given as goal

abbrev pub invariant-batches : goal.invariant-batches
invariant-batches g l = record {
  whole : IsWhole l.joined;
  evaluation : joined_evaluation l.joined ≡ evaluation_of l.run.plan.now l.run.env.now;
  within : l.at ≤ length l.stretches;
  left : (n : ℕ) × AreStretches n l.joined.end (rows_at l.run.env.now) (drop l.at l.stretches);
}

abbrev pub decreases-batches : goal.decreases-batches
decreases-batches g l = length l.stretches - l.at
