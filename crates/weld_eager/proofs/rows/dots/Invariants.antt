use Rattle.std.proofs.Common.{◌≡◌, length}
use Rattle.weld_data.specs.View.{view_column}
use Rattle.weld_builders.specs.Range.{AllInRange}
use Rattle.weld_eager.proofs.DotRows.{DotsSoFar}
use Rattle.weld_eager.proofs.rows.dots.Given as goal

abbrev pub invariant-loop-i : goal.invariant-loop-i
invariant-loop-i l =
    DotsSoFar l.fn.kind l.weights (view_column l.rows) l.i l.zs.items
    × AllInRange l.fn.kind l.zs.items
    × (l.count ≡ length (view_column l.rows))
