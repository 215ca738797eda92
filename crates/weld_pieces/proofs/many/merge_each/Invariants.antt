use Rattle.std.proofs.Common.{◌≡◌, drop, zip}
use Rattle.weld_builders.specs.Range.{AllInRange}
use Rattle.weld_pieces.specs.Many.{merged_cells}
use Rattle.weld_pieces.proofs.many.merge_each.Given as goal

abbrev pub invariant-loop-i : goal.invariant-loop-i
invariant-loop-i l =
    (merged_cells l.op l.kind l.initial.cells (zip l.indexes l.numbers) ≡ merged_cells l.op l.kind l.cells (zip (drop l.i l.indexes) (drop l.i l.numbers)))
    × AllInRange l.kind l.cells
