use Rattle.weld_horizontal.proofs.PickRule.{pick_rewrites}
use Rattle.weld_horizontal.proofs.picked.fields_are_picked.Goals as goal

pub returns : goal.returns
returns c = pick_rewrites (record { total = c.values_are_ordered.ensures.total; alike = c.keys_are_ordered_alike.ensures })
