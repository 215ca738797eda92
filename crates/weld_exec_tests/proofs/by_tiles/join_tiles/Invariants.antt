use Rattle.std.proofs.Common.{◌≡◌, ◌≤◌, ◌-◌}
use Rattle.weld_tile_parts.specs.Parts.{joined_evaluation, IsWhole}
use Rattle.weld_exec.specs.Run.{evaluation_of, rows_at}
use Rattle.weld_exec_tests.proofs.by_tiles.join_tiles.Given as goal

abbrev pub invariant-loop-joined : goal.invariant-loop-joined
invariant-loop-joined l =
    IsWhole l.joined
    × (joined_evaluation l.joined ≡ evaluation_of l.plan l.env)
    × (l.rows ≡ rows_at l.env)
    × (l.joined.end ≤ l.rows)

abbrev pub decreases-loop-joined : goal.decreases-loop-joined
decreases-loop-joined l = l.rows - l.joined.end
