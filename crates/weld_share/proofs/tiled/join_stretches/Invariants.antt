use Rattle.std.proofs.Common.{◌≡◌, ◌≤◌, ◌-◌, drop, length}
use Rattle.weld_tile_parts.specs.Parts.{joined_evaluation, IsWhole}
use Rattle.weld_exec.specs.Run.{evaluation_of, rows_at}
use Rattle.weld_share.specs.Stretches.{AreStretches}
use Rattle.weld_share.proofs.tiled.join_stretches.Given as goal

abbrev pub invariant-batches : goal.invariant-batches
invariant-batches g l =
    IsWhole l.joined
    × (joined_evaluation l.joined ≡ evaluation_of l.run.plan.now l.run.env.now)
    × (l.at ≤ length l.stretches)
    × AreStretches l.joined.next l.joined.end (rows_at l.run.env.now) (drop l.at l.stretches)

abbrev pub decreases-batches : goal.decreases-batches
decreases-batches g l = length l.stretches - l.at
