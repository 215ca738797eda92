use Rattle.weld_vertical.proofs.SinkRule.{consumer_rewrites, consumer_loops, consumer_legs}
use Rattle.weld_vertical.proofs.sinking.loops_over_loops_are_one.Goals as goal

pub returns : goal.returns
returns c = record {
  rewrites = consumer_rewrites (record { total = c.values_are_ordered.ensures.total; alike = c.keys_are_ordered_alike.ensures });
  one_loop_less = consumer_loops;
  one_leg_less = consumer_legs;
}
