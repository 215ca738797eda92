use Rattle.std.proofs.Common.{◌≡◌, length, map}
use Rattle.weld_lanes.specs.Blocks.{AreAnswered}
use Rattle.weld_lanes.proofs.kernels.answer_all.Given as goal

abbrev pub invariant-loop-place : goal.invariant-loop-place
invariant-loop-place g l = record {
  long : length l.room ≡ length l.fn.room;
  answered : AreAnswered g.L.Lane.kind l.program.steps.items (map g.L.Lane.number l.uniforms) (map g.L.Lane.number l.first) (map g.L.Lane.number l.second) (map g.L.Lane.number l.room) l.place (length l.first);
}
