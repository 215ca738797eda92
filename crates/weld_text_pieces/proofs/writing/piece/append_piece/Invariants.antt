use Rattle.std.proofs.Common.{◌≡◌, ◌++◌, map, length}
use Rattle.weld_write_value.specs.Showing.{led, shown_scalar}
use Rattle.weld_text_pieces.proofs.writing.piece.append_piece.Given as goal

-- what is written and what is left make the whole
abbrev pub invariant-blocks-2 : goal.invariant-blocks-2
invariant-blocks-2 g l = l.out ++ led 44 shown_scalar (map g.T.Cell.value l.rest) ≡ l.fn.out ++ led 44 shown_scalar (map g.T.Cell.value l.items)

abbrev pub decreases-blocks-2 : goal.decreases-blocks-2
decreases-blocks-2 g l = length l.rest
