use Rattle.std.proofs.Common.{◌≡◌, ◌<◌, ℕ, not, length, map}
use Rattle.weld_data.specs.Operation.{truth}
use Rattle.weld_lanes.specs.Answers.{at, is_true}
use Rattle.weld_lanes.proofs.works.each_not.Given as goal

abbrev pub invariant-loop-place : goal.invariant-loop-place
invariant-loop-place g l = record {
  long : length l.out ≡ length l.fn.out;
  each : (j : ℕ) → j < l.place → at (map g.L.Lane.number l.out) j ≡ truth (not (is_true (at (map g.L.Lane.number l.x) j)));
}
