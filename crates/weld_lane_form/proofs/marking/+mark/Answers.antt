use Rattle.std.proofs.Common.{List, subst}
use Rattle.weld_tree.specs.ExprTree.{ExprTree, LegTree, pack_exprs, pack_legs}
use Rattle.weld_lane_form.specs.Marking.{loops_among, loops_in_legs, MarkOn}
use Rattle.weld_lane_form.proofs.Marked.{part_marked, parts_marked, leg_marked, legs_marked}
use Rattle.weld_lane_form.proofs.marking.+mark.Goals as goal

pub mark_all-loop-part-preserved : goal.mark_all-loop-part-preserved
mark_all-loop-part-preserved t c =
    part_marked c.args.marks.now.items c.loop-part.marks.items c.mark.new.marks.items c.as_slice-part-items.result.now c.loop-part.part-index c.part-item.result c.loop-part-test.true c.part-item.is c.loop-part.invariant c.in-Ok.ensures

pub mark_all-returns : goal.mark_all-returns
mark_all-returns t c =
    subst (λ (es : List ExprTree). MarkOn c.args.marks.now.items c.loop-part.marks.items (loops_among (pack_exprs es))) c.as_slice-part-items.ensures.value
    (parts_marked c.args.marks.now.items c.loop-part.marks.items c.as_slice-part-items.result.now c.loop-part.part-index c.loop-part-test.false c.loop-part.invariant)

pub mark_legs-loop-leg-preserved : goal.mark_legs-loop-leg-preserved
mark_legs-loop-leg-preserved t c =
    leg_marked c.args.marks.now.items c.loop-leg.marks.items c.mark_leg.new.marks.items c.as_slice-leg-items.result.now c.loop-leg.leg-index c.leg-item.result c.loop-leg-test.true c.leg-item.is c.loop-leg.invariant c.in-Ok.ensures

pub mark_legs-returns : goal.mark_legs-returns
mark_legs-returns t c =
    subst (λ (ls : List LegTree). MarkOn c.args.marks.now.items c.loop-leg.marks.items (loops_in_legs (pack_legs ls))) c.as_slice-leg-items.ensures.value
    (legs_marked c.args.marks.now.items c.loop-leg.marks.items c.as_slice-leg-items.result.now c.loop-leg.leg-index c.loop-leg-test.false c.loop-leg.invariant)
