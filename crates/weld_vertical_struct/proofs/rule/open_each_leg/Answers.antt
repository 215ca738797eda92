use Rattle.std.proofs.Common.{map}
use Rattle.weld_tree.specs.ExprView.{view_leg}
use Rattle.weld_rewriting.proofs.Lists.{all_changed, leg_changed, no_leg_left}
use Rattle.weld_vertical_struct.specs.Held.{opened_leg}
use Rattle.weld_vertical_struct.proofs.rule.open_each_leg.Goals as goal

pub loop-leg-preserved : goal.loop-leg-preserved
loop-leg-preserved c =
    leg_changed (opened_leg c.args.part.0) c.loop-leg.leg-index c.loop-leg.legs c.args.legs.now c.open_leg.new.leg c.leg-item.result
    c.loop-leg.invariant c.loop-leg-test.true c.in_ok-open_leg.ensures

pub returns : goal.returns
returns c =
    all_changed (opened_leg c.args.part.0) c.loop-leg.leg-index (map view_leg c.loop-leg.legs) (map view_leg c.args.legs.now) c.loop-leg.invariant
    (no_leg_left c.loop-leg.leg-index c.args.legs.now c.loop-leg-test.false)
