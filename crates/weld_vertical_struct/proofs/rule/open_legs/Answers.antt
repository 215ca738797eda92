use Rattle.std.proofs.Common.{map}
use Rattle.weld_tree.specs.ExprView.{view_leg}
use Rattle.weld_rewriting.proofs.Lists.{and_so}
use Rattle.weld_vertical_struct.proofs.Left.{list_opened}
use Rattle.weld_vertical_struct.proofs.rule.open_legs.Goals as goal

pub returns : goal.returns
returns c =
    and_so c.open_each_leg.result
    (λ h. list_opened c.args.part.0 c.args.legs.now (map view_leg c.as_mut_slice.result.now) (map view_leg c.open_each_leg.new.legs) c.as_mut_slice.ensures.value h)
    c.open_each_leg.ensures
