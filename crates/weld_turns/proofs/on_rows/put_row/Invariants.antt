use Rattle.std.proofs.Common.{◌≡◌, ℕ, ◌+◌, ◌<◌}
use Rattle.weld_turns.specs.StepView.{words_of}
use Rattle.weld_turns.proofs.on_rows.put_row.Given as goal

abbrev pub invariant-loop-k : goal.invariant-loop-k
invariant-loop-k l = record {
  there : (j : ℕ) → j < l.k → words_of l.words (l.at + j) ≡ words_of l.row j;
  kept : (i : ℕ) → i < l.at → words_of l.words i ≡ words_of l.initial.words i;
}
