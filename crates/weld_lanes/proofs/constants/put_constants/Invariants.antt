use Rattle.std.proofs.Common.{◌≡◌, length, map}
use Rattle.weld_lanes.specs.Blocks.{AreConstants}
use Rattle.weld_lanes.proofs.constants.put_constants.Given as goal

abbrev pub invariant-loop-place : goal.invariant-loop-place
invariant-loop-place g l = record {
  long : length l.constants ≡ length l.fn.constants;
  are : AreConstants l.program.steps.items (map g.L.Lane.number l.uniforms) (map g.L.Lane.number l.constants) l.place;
}
