use Rattle.std.proofs.Common.{◌≡◌, map, length}
use Rattle.weld_text_pieces.proofs.Commas.{before}
use Rattle.weld_text_pieces.proofs.reading.cutting.cut_pieces.Given as goal

abbrev pub invariant-loop-piece : goal.invariant-loop-piece
invariant-loop-piece l = l.text ≡ before (map (λ p. p.now) l.pieces.items) l.rest

abbrev pub decreases-loop-piece : goal.decreases-loop-piece
decreases-loop-piece l = length l.rest
