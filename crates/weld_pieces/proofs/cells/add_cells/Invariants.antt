use Rattle.std.proofs.Common.{◌≡◌, map}
use Rattle.weld_builders.specs.Range.{AllInRange}
use Rattle.weld_pieces.specs.Word.{word}
use Rattle.weld_pieces.proofs.CellLemmas.{mixed}
use Rattle.weld_pieces.proofs.cells.add_cells.Given as goal

abbrev pub invariant-loop-i : goal.invariant-loop-i
invariant-loop-i l =
    (map (word l.kind) l.cells ≡ mixed l.op l.kind (map (word l.kind) l.initial.cells) (map (word l.kind) l.later) l.i)
    × AllInRange l.kind (map (word l.kind) l.cells)
