use Rattle.weld_vertical.specs.Sinking.{is_consumer, fused}
use Rattle.weld_vertical.proofs.Falling.{lighter}
use Rattle.weld_vertical.proofs.laws.loops_may_be_fused.Goals as goal

pub returns : goal.returns
returns c = record {
  falls = c.rules_are_tests.ensures.falls is_consumer fused lighter;
  sound = c.rules_are_tests.ensures.sound is_consumer fused c.loops_over_loops_are_one.ensures.rewrites;
  still = c.rules_are_tests.ensures.still is_consumer fused;
}
