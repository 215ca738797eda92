use Rattle.std.proofs.Common.{◌≡◌, take}
use Rattle.weld_deeds.specs.Chosen.{chosen_words}
use Rattle.weld_deeds.proofs.chosen.chosen.Given as goal

abbrev pub invariant-loop-place : goal.invariant-loop-place
invariant-loop-place l = l.words.items ≡ chosen_words (take l.place l.truths.items.items) (take l.place l.column.items.items)
