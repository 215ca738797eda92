use Rattle.std.proofs.Common.{◌+◌, ◌*◌, List, Option, drop, map}
use Rattle.weld_tree.specs.ExprTree.{pack_exprs, pack_legs}
use Rattle.weld_tree.specs.ExprView.{view_leg}
use Rattle.weld_tree.specs.ExprFalls.{expr_nodes, exprs_nodes, leg_nodes, legs_nodes}
use Rattle.weld_lane_form.specs.Marking.{loops_among, loops_in_legs, MarkOn}
use Rattle.weld_lane_form.specs.declared.making.LaneBody.{LaneBody}
use Rattle.weld_lane_form.proofs.marking.+mark.Given as goal

abbrev pub decreases-mark : goal.decreases-mark
decreases-mark l = 8 * expr_nodes l.e.now

abbrev pub decreases-mark_two : goal.decreases-mark_two
decreases-mark_two l = 8 * (expr_nodes l.first.now + expr_nodes l.second.now) + 1

abbrev pub decreases-mark_three : goal.decreases-mark_three
decreases-mark_three l = 8 * (expr_nodes l.first.now + expr_nodes l.second.now + expr_nodes l.third.now) + 2

abbrev pub decreases-mark_within : goal.decreases-mark_within
decreases-mark_within l = 8 * (legs_nodes (pack_legs l.legs.now) + expr_nodes l.builder.now + expr_nodes l.body.now) + 5

abbrev pub decreases-mark_all : goal.decreases-mark_all
decreases-mark_all l = 8 * exprs_nodes (pack_exprs l.parts.now) + 1

abbrev pub decreases-mark_leg : goal.decreases-mark_leg
decreases-mark_leg l = 8 * leg_nodes (view_leg l.leg.now) + 3

abbrev pub decreases-mark_legs : goal.decreases-mark_legs
decreases-mark_legs l = 8 * legs_nodes (pack_legs l.legs.now) + 4

-- where the rest of the loops is marked, all are

abbrev pub invariant-mark_all-loop-part : goal.invariant-mark_all-loop-part
invariant-mark_all-loop-part l =
    (new : List (Option LaneBody)) → MarkOn l.marks.items new (loops_among (pack_exprs (drop l.part-index l.part-items))) → MarkOn l.initial.marks.items new (loops_among (pack_exprs l.part-items))

abbrev pub invariant-mark_legs-loop-leg : goal.invariant-mark_legs-loop-leg
invariant-mark_legs-loop-leg l =
    (new : List (Option LaneBody)) → MarkOn l.marks.items new (loops_in_legs (pack_legs (map view_leg (drop l.leg-index l.leg-items)))) → MarkOn l.initial.marks.items new (loops_in_legs (pack_legs (map view_leg l.leg-items)))
