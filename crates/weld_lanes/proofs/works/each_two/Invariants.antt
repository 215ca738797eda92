use Rattle.std.proofs.Common.{◌≡◌, ◌<◌, ℕ, length, map}
use Rattle.weld_lanes.specs.Answers.{at}
use Rattle.weld_lanes.proofs.works.each_two.Given as goal

abbrev pub invariant-loop-place : goal.invariant-loop-place
invariant-loop-place g l = record {
  long : length l.out ≡ length l.fn.out;
  each : (j : ℕ) → j < l.place → at (map g.L.Lane.number l.out) j ≡ g.W.Work.gives (at (map g.L.Lane.number l.x) j) (at (map g.L.Lane.number l.y) j);
}
