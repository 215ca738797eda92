use Rattle.std.proofs.Common.{◌≡◌, ◌<◌, ◌≤◌, ◌-◌, ℕ, length, map}
use Rattle.weld_lanes.specs.Answers.{at, row_answer}
use Rattle.weld_lanes.proofs.kernels.map_all.Given as goal

abbrev pub invariant-loop-from : goal.invariant-loop-from
invariant-loop-from g l = record {
  within : l.from ≤ length l.first;
  each : (j : ℕ) → j < l.from → at (map g.L.Lane.number l.out) j ≡ row_answer g.L.Lane.kind l.program.steps.items (map g.L.Lane.number l.uniforms) (at (map g.L.Lane.number l.first) j) (at (map g.L.Lane.number l.second) j);
}

abbrev pub decreases-loop-from : goal.decreases-loop-from
decreases-loop-from g l = length l.first - l.from
