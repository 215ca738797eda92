use Rattle.std.proofs.Common.{◌≡◌, ℕ, ◌<◌, pos, length, get_or, if◌then◌else◌}
use Rattle.std.specs.Ordering.{int_eq}
use Rattle.weld_blocks.proofs.choices.choose_all.Given as goal

abbrev pub invariant-loop-place : goal.invariant-loop-place
invariant-loop-place l = record {
  long : length l.items ≡ length l.fn.items;
  each : (j : ℕ) → j < l.place → get_or l.items j (pos 0) ≡ (if int_eq (get_or l.condition j (pos 0)) (pos 1) then get_or l.then j (pos 0) else get_or l.otherwise j (pos 0));
}
