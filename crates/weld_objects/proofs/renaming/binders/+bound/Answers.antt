use Rattle.weld_objects.proofs.BoundParts.{one_more_part, one_more_leg_bound}
use Rattle.weld_objects.proofs.renaming.binders.+bound.Goals as goal

pub push_all-loop-part-preserved : goal.push_all-loop-part-preserved
push_all-loop-part-preserved t c =
    one_more_part c.as_slice-part-items.result.now c.loop-part.part-index c.part-item.result c.part-item.result
    c.args.syms.now c.loop-part.syms c.push_bound.new.syms c.loop-part-test.true c.part-item.is c.loop-part.invariant c.in_ok-push_bound.ensures

pub push_legs-loop-leg-preserved : goal.push_legs-loop-leg-preserved
push_legs-loop-leg-preserved t c =
    one_more_leg_bound c.as_slice-leg-items.result.now c.loop-leg.leg-index c.leg-item.result c.leg-item.result
    c.args.syms.now c.loop-leg.syms c.push_leg.new.syms c.loop-leg-test.true c.leg-item.is c.loop-leg.invariant c.in_ok-push_leg.ensures
