use Rattle.std.proofs.Common.{◌≡◌, ℕ, ◌<◌, Some, slice_get}
use Rattle.weld_turns.specs.CodeView.{slots_of}
use Rattle.weld_turns.proofs.turns.put_numbers.Given as goal

abbrev pub invariant-loop-k : goal.invariant-loop-k
invariant-loop-k l = (j : ℕ) → j < l.k → slice_get l.fields j ≡ Some (slots_of l.slots j)
