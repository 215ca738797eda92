use Rattle.weld_joining.specs.Joining.{may_be_one, joined_pair}
use Rattle.weld_joining.proofs.Falling.{lighter}
use Rattle.weld_joining.proofs.Sound.{rewrites}
use Rattle.weld_joining.proofs.laws.loops_may_be_joined.Goals as goal

pub returns : goal.returns
returns c = record {
  falls = c.rules_are_tests.ensures.falls may_be_one joined_pair (lighter c.loops_may_run_side_by_side.ensures.lighter c.lets_come_up.ensures.weighs);
  sound =
      c.rules_are_tests.ensures.sound may_be_one joined_pair
      (rewrites c.uses_are_free.ensures.unused c.loops_may_run_side_by_side.ensures.rewrites c.rewriting_goes_through_every_node.ensures c.lets_come_up.ensures.rewrites);
  still = c.rules_are_tests.ensures.still may_be_one joined_pair;
}
