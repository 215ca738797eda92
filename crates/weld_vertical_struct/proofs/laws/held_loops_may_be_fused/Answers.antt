use Rattle.weld_vertical.specs.Fusing.{loops_rule}
use Rattle.weld_vertical_struct.specs.Held.{is_held, held_fused}
use Rattle.weld_vertical_struct.proofs.laws.held_loops_may_be_fused.Goals as goal

pub returns : goal.returns
returns c = record {
  falls = c.rules_may_be_tried_on_parts.ensures.falls loops_rule c.loops_may_be_fused.ensures.falls;
  sound = c.rules_may_be_tried_on_parts.ensures.sound loops_rule c.loops_may_be_fused.ensures.sound;
  still = c.rules_are_tests.ensures.still is_held held_fused;
}
