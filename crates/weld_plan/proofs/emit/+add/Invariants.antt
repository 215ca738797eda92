use Rattle.std.proofs.Common.{◌+◌, ◌*◌, map}
use Rattle.weld_tree.specs.ExprFalls.{expr_nodes, exprs_nodes, leg_nodes, legs_nodes}
use Rattle.weld_tree.specs.ExprTree.{pack_exprs, pack_legs}
use Rattle.weld_tree.specs.ExprView.{view_leg}
use Rattle.weld_plan.proofs.emit.+add.Given as goal

-- the measure: the nodes that are left to go over, eight for each, so that a node and its parts differ

abbrev pub decreases-add : goal.decreases-add
decreases-add l = 8 * expr_nodes l.e.now

abbrev pub decreases-add_two : goal.decreases-add_two
decreases-add_two l = 8 * (expr_nodes l.first.now + expr_nodes l.second.now) + 7

abbrev pub decreases-add_three : goal.decreases-add_three
decreases-add_three l = 8 * (expr_nodes l.first.now + expr_nodes l.second.now + expr_nodes l.third.now) + 7

abbrev pub decreases-add_arms : goal.decreases-add_arms
decreases-add_arms l = 8 * (expr_nodes l.then.now + expr_nodes l.otherwise.now) + 6

abbrev pub decreases-add_let : goal.decreases-add_let
decreases-add_let l = 8 * (expr_nodes l.value.now + expr_nodes l.body.now) + 7

abbrev pub decreases-add_all : goal.decreases-add_all
decreases-add_all l = 8 * exprs_nodes (pack_exprs l.parts.now) + 7

abbrev pub decreases-add_legs : goal.decreases-add_legs
decreases-add_legs l = 8 * legs_nodes (pack_legs (map view_leg l.legs.now)) + 7

abbrev pub decreases-add_leg : goal.decreases-add_leg
decreases-add_leg l = 8 * leg_nodes (view_leg l.leg.now) + 6
