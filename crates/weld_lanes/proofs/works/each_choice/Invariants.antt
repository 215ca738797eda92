use Rattle.std.proofs.Common.{◌≡◌, ◌<◌, ℕ, if◌then◌else◌, length, map}
use Rattle.weld_lanes.specs.Answers.{at, is_true}
use Rattle.weld_lanes.proofs.works.each_choice.Given as goal

abbrev pub invariant-loop-place : goal.invariant-loop-place
invariant-loop-place g l = record {
  long : length l.out ≡ length l.fn.out;
  each : (j : ℕ) → j < l.place → at (map g.L.Lane.number l.out) j ≡ (if is_true (at (map g.L.Lane.number l.truths) j) then at (map g.L.Lane.number l.x) j else at (map g.L.Lane.number l.y) j);
}
