use Rattle.std.proofs.Common.{◌≡◌, ◌+◌, ◌*◌, drop, map}
use Rattle.weld_tree.specs.ExprTree.{pack_exprs, pack_legs}
use Rattle.weld_tree.specs.ExprView.{view_leg}
use Rattle.weld_tree.specs.ExprFalls.{expr_nodes, exprs_nodes, leg_nodes, legs_nodes}
use Rattle.weld_substitution.specs.Redex.{spot_among, spot_in_legs}
use Rattle.weld_inline.proofs.spots.+spots.Given as goal

abbrev pub decreases-spot_of : goal.decreases-spot_of
decreases-spot_of l = 4 * expr_nodes l.e.now

abbrev pub decreases-spot_in_either : goal.decreases-spot_in_either
decreases-spot_in_either l = 4 * (expr_nodes l.first.now + expr_nodes l.second.now) + 1

abbrev pub decreases-spot_in_two : goal.decreases-spot_in_two
decreases-spot_in_two l = 4 * (expr_nodes l.first.now + expr_nodes l.second.now) + 2

abbrev pub decreases-spot_in_three : goal.decreases-spot_in_three
decreases-spot_in_three l = 4 * (expr_nodes l.first.now + expr_nodes l.second.now + expr_nodes l.third.now) + 2

abbrev pub decreases-spot_among : goal.decreases-spot_among
decreases-spot_among l = 4 * exprs_nodes (pack_exprs l.parts.now) + 1

abbrev pub decreases-spot_in_leg : goal.decreases-spot_in_leg
decreases-spot_in_leg l = 4 * leg_nodes (view_leg l.leg.now) + 2

abbrev pub decreases-spot_in_legs : goal.decreases-spot_in_legs
decreases-spot_in_legs l = 4 * legs_nodes (pack_legs l.legs.now) + 3

-- none so far has such a use, so it is as the rest says

abbrev pub invariant-spot_among-loop-part : goal.invariant-spot_among-loop-part
invariant-spot_among-loop-part l = spot_among l.name.0 (pack_exprs l.part-items) ≡ spot_among l.name.0 (pack_exprs (drop l.part-index l.part-items))

abbrev pub invariant-spot_in_legs-loop-leg : goal.invariant-spot_in_legs-loop-leg
invariant-spot_in_legs-loop-leg l = spot_in_legs l.name.0 (pack_legs (map view_leg l.leg-items)) ≡ spot_in_legs l.name.0 (pack_legs (map view_leg (drop l.leg-index l.leg-items)))
