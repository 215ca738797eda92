use Rattle.std.proofs.Common.{◌≡◌, ◌≤◌, ◌-◌, length, map, take}
use Rattle.std.specs.List.{fold}
use Rattle.weld_data.specs.Operation.{combination}
use Rattle.weld_lanes.specs.Answers.{lane_meaning}
use Rattle.weld_lanes.proofs.kernels.fold_rows.Given as goal

abbrev pub invariant-loop-from : goal.invariant-loop-from
invariant-loop-from g l = record {
  within : l.from ≤ length l.first;
  come : g.L.Lane.number l.total ≡ fold (λ x y. combination l.op g.L.Lane.kind x y) (g.L.Lane.number l.fn.start) (take l.from (lane_meaning g.L.Lane.kind l.program.steps.items (map g.L.Lane.number l.uniforms) (map g.L.Lane.number l.first) (map g.L.Lane.number l.second)));
}

abbrev pub decreases-loop-from : goal.decreases-loop-from
decreases-loop-from g l = length l.first - l.from
