use Rattle.weld_horizontal.proofs.TwiceRule.{once_rewrites}
use Rattle.weld_horizontal.proofs.twice.legs_stand_once.Goals as goal

pub returns : goal.returns
returns c = once_rewrites (record { total = c.values_are_ordered.ensures.total; alike = c.keys_are_ordered_alike.ensures })
