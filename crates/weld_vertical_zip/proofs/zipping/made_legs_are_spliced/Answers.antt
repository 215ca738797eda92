use Rattle.weld_vertical_zip.proofs.SpliceRule.{zipped_rewrites, zipped_loops, zipped_legs}
use Rattle.weld_vertical_zip.proofs.zipping.made_legs_are_spliced.Goals as goal

pub returns : goal.returns
returns c = record {
  rewrites = zipped_rewrites (record { total = c.values_are_ordered.ensures.total; alike = c.keys_are_ordered_alike.ensures });
  one_loop_less = zipped_loops;
  one_leg_less = zipped_legs;
}
