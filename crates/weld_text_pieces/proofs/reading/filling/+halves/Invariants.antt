use Rattle.std.proofs.Common.{◌+◌, ◌-◌, ◌*◌, length}
use Rattle.weld_text_pieces.proofs.reading.filling.+halves.Given as goal

abbrev pub decreases-fill_pieces : goal.decreases-fill_pieces
decreases-fill_pieces g l = 4 * length l.pieces.now

abbrev pub decreases-fill_halves : goal.decreases-fill_halves
decreases-fill_halves g l = 4 * (length l.first.now + length l.last.now) - 1

abbrev pub decreases-fill_halves-front : goal.decreases-fill_halves-front
decreases-fill_halves-front g l = 4 * length l.first.now + 1

abbrev pub decreases-fill_halves-back : goal.decreases-fill_halves-back
decreases-fill_halves-back g l = 4 * length l.last.now + 1
