use Rattle.std.proofs.Common.{ℕ, ◌<◌}
use Rattle.weld_turns.specs.OnRows.{state_of, EndsWith}
use Rattle.weld_blocks.specs.Turned.{state_at, word_in, words_in}
use Rattle.weld_blocks.proofs.turning.end_each.Given as goal

abbrev pub invariant-loop-place : goal.invariant-loop-place
invariant-loop-place l = (j : ℕ) → j < l.place → EndsWith l.step l.shape (words_in l.columns j) (state_of l.shape (word_in l.first j) (word_in l.second j)) (state_at l.shape l.states j)
