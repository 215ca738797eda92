use Rattle.std.proofs.Common.{◌≡◌, ◌*◌, ◌≤◌, map, length, drop}
use Rattle.weld_write_value.specs.Showing.{led, shown_scalar}
use Rattle.weld_text_pieces.proofs.writing.piece.write_block.Given as goal

-- the scalars from this one on are written, and there is room for those before it
abbrev pub invariant-cells : goal.invariant-cells
invariant-cells g l =
    (l.left ≤ length l.items)
    × (21 * l.left ≤ l.at)
    × (l.at ≤ length l.bytes)
    × (drop l.at l.bytes ≡ led 44 shown_scalar (map g.T.Cell.value (drop l.left l.items)))

abbrev pub decreases-cells : goal.decreases-cells
decreases-cells g l = l.left
