use Rattle.std.proofs.Common.{◌≡◌, ℕ, ◌<◌, pos, length, get_or}
use Rattle.weld_data.specs.Kind.{InRange}
use Rattle.weld_data.specs.Value.{number}
use Rattle.weld_eval.specs.Word.{of_word}
use Rattle.weld_blocks.proofs.gather.gather.Given as goal

abbrev pub invariant-loop-place : goal.invariant-loop-place
invariant-loop-place g l = record {
  long : length l.items.items ≡ l.count;
  in_range : (k : ℕ) → InRange l.kind (of_word l.kind (get_or l.items.items k (pos 0)));
  given : (k : ℕ) → k < l.place → g.T.Gives.gives l.of k (number l.kind (of_word l.kind (get_or l.items.items k (pos 0))));
}
