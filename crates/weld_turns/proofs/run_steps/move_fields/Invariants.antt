use Rattle.std.proofs.Common.{◌≡◌, ℕ, ◌+◌, ◌<◌, ◌≤◌, slice_get}
use Rattle.weld_turns.proofs.run_steps.move_fields.Given as goal

abbrev pub invariant-loop-k : goal.invariant-loop-k
invariant-loop-k l = record {
  moved : (j : ℕ) → j < l.k → slice_get l.words j ≡ slice_get l.initial.words (l.first + j);
  rest : (j : ℕ) → l.k ≤ j → slice_get l.words j ≡ slice_get l.initial.words j;
}
