use Rattle.weld_joining.proofs.Rising.{weighs_the_same, comes_up}
use Rattle.weld_joining.proofs.beside.lets_come_up.Goals as goal

pub returns : goal.returns
returns c = record {
  weighs = weighs_the_same;
  rewrites = comes_up c.uses_are_free.ensures.unused (record { total = c.values_are_ordered.ensures.total; alike = c.keys_are_ordered_alike.ensures });
}
