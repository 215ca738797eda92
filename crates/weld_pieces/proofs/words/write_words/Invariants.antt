use Rattle.std.proofs.Common.{◌≡◌, length, map, take}
use Rattle.weld_data.specs.Value.{number}
use Rattle.weld_pieces.proofs.words.write_words.Given as goal

abbrev pub invariant-loop-place : goal.invariant-loop-place
invariant-loop-place g l = (map g.T.FromWord.value (take l.place l.room) ≡ map (number g.T.FromWord.kind) (take l.place l.words)) × (length l.words ≡ length l.room)
