use Rattle.std.proofs.Common.{◌≡◌, ◌+◌, ◌*◌, drop, map}
use Rattle.weld_tree.specs.ExprTree.{pack_exprs, pack_legs}
use Rattle.weld_tree.specs.ExprView.{view_leg}
use Rattle.weld_tree.specs.ExprFalls.{expr_nodes, exprs_nodes, leg_nodes, legs_nodes}
use Rattle.weld_handing.specs.Handing.{all_start_none, legs_start_none}
use Rattle.weld_handing.proofs.starts.+starts.Given as goal

-- the measure: seven times the nodes, so that a node, a list, a leg and its parts differ

abbrev pub decreases-starts_none : goal.decreases-starts_none
decreases-starts_none l = 7 * expr_nodes l.e.now

abbrev pub decreases-two_start_none : goal.decreases-two_start_none
decreases-two_start_none l = 7 * (expr_nodes l.first.now + expr_nodes l.second.now) + 1

abbrev pub decreases-three_start_none : goal.decreases-three_start_none
decreases-three_start_none l = 7 * (expr_nodes l.first.now + expr_nodes l.second.now + expr_nodes l.third.now) + 2

abbrev pub decreases-let_starts_none : goal.decreases-let_starts_none
decreases-let_starts_none l = 7 * (expr_nodes l.value.now + expr_nodes l.body.now) + 1

abbrev pub decreases-loop_starts_none : goal.decreases-loop_starts_none
decreases-loop_starts_none l = 7 * (legs_nodes (pack_legs l.legs.now) + expr_nodes l.builder.now) + 6

abbrev pub decreases-all_start_none : goal.decreases-all_start_none
decreases-all_start_none l = 7 * exprs_nodes (pack_exprs l.parts.now) + 1

abbrev pub decreases-leg_starts_none : goal.decreases-leg_starts_none
decreases-leg_starts_none l = 7 * leg_nodes (view_leg l.leg.now) + 4

abbrev pub decreases-strided_starts_none : goal.decreases-strided_starts_none
decreases-strided_starts_none l = 7 * (expr_nodes l.e.now + expr_nodes l.from.now + expr_nodes l.to.now + expr_nodes l.by.now) + 3

abbrev pub decreases-legs_start_none : goal.decreases-legs_start_none
decreases-legs_start_none l = 7 * legs_nodes (pack_legs l.legs.now) + 5

-- what is left decides

abbrev pub invariant-all_start_none-loop-part : goal.invariant-all_start_none-loop-part
invariant-all_start_none-loop-part l = all_start_none l.scope (pack_exprs l.part-items) ≡ all_start_none l.scope (pack_exprs (drop l.part-index l.part-items))

abbrev pub invariant-legs_start_none-loop-leg : goal.invariant-legs_start_none-loop-leg
invariant-legs_start_none-loop-leg l = legs_start_none l.scope (pack_legs (map view_leg l.leg-items)) ≡ legs_start_none l.scope (pack_legs (map view_leg (drop l.leg-index l.leg-items)))
