use Rattle.weld_joining.proofs.BesideRule.{lets_rewrite}
use Rattle.weld_joining.proofs.Lighter.{lighter}
use Rattle.weld_joining.proofs.beside.loops_may_run_side_by_side.Goals as goal

pub returns : goal.returns
returns c = record {
  lighter = lighter;
  rewrites = lets_rewrite (record { total = c.values_are_ordered.ensures.total; alike = c.keys_are_ordered_alike.ensures });
}
