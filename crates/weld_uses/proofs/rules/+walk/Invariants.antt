use Rattle.std.proofs.Common.{◌+◌, ◌*◌}
use Rattle.weld_tree.specs.ExprTree.{pack_exprs, pack_legs}
use Rattle.weld_tree.specs.ExprView.{view_leg}
use Rattle.weld_tree.specs.ExprFalls.{expr_nodes, exprs_nodes, leg_nodes, legs_nodes}
use Rattle.weld_uses.proofs.Binding.{AllSo, LegsSo}
use Rattle.weld_uses.proofs.rules.+walk.Given as goal

abbrev pub decreases-walk : goal.decreases-walk
decreases-walk l = 4 * expr_nodes l.e.now

abbrev pub decreases-walk_one : goal.decreases-walk_one
decreases-walk_one l = 4 * expr_nodes l.part.now + 2

abbrev pub decreases-walk_part : goal.decreases-walk_part
decreases-walk_part l = 4 * expr_nodes l.part.now + 1

abbrev pub decreases-walk_two : goal.decreases-walk_two
decreases-walk_two l = 4 * (expr_nodes l.first.now + expr_nodes l.second.now) + 1

abbrev pub decreases-walk_if : goal.decreases-walk_if
decreases-walk_if l = 4 * (expr_nodes l.condition.now + expr_nodes l.first.now + expr_nodes l.second.now) + 1

abbrev pub decreases-walk_three : goal.decreases-walk_three
decreases-walk_three l = 4 * (expr_nodes l.first.now + expr_nodes l.second.now + expr_nodes l.third.now) + 2

abbrev pub decreases-walk_select : goal.decreases-walk_select
decreases-walk_select l = 4 * (expr_nodes l.first.now + expr_nodes l.second.now + expr_nodes l.third.now) + 1

abbrev pub decreases-walk_many : goal.decreases-walk_many
decreases-walk_many l = 4 * exprs_nodes (pack_exprs l.parts.now) + 2

abbrev pub decreases-walk_all : goal.decreases-walk_all
decreases-walk_all l = 4 * exprs_nodes (pack_exprs l.parts.now) + 1

abbrev pub decreases-walk_let : goal.decreases-walk_let
decreases-walk_let l = 4 * (expr_nodes l.value.now + expr_nodes l.body.now) + 2

abbrev pub decreases-walk_builders_body : goal.decreases-walk_builders_body
decreases-walk_builders_body l = 4 * expr_nodes l.body.now + 1

abbrev pub decreases-walk_iterate : goal.decreases-walk_iterate
decreases-walk_iterate l = 4 * (expr_nodes l.state.now + expr_nodes l.body.now) + 1

abbrev pub decreases-walk_for : goal.decreases-walk_for
decreases-walk_for l = 4 * (legs_nodes (pack_legs l.legs.now) + expr_nodes l.builder.now + expr_nodes l.body.now) + 3

abbrev pub decreases-walk_body : goal.decreases-walk_body
decreases-walk_body l = 4 * expr_nodes l.body.now + 1

abbrev pub decreases-walk_legs : goal.decreases-walk_legs
decreases-walk_legs l = 4 * legs_nodes (pack_legs l.legs.now) + 2

abbrev pub decreases-walk_leg : goal.decreases-walk_leg
decreases-walk_leg l = 4 * leg_nodes (view_leg l.leg.now) + 1

-- what is refused, answered and left by those so far and by the rest
abbrev pub invariant-walk_all-loop-part : goal.invariant-walk_all-loop-part
invariant-walk_all-loop-part l = AllSo l.part-items l.part-index l.sources l.scope l.fn.left l.left

abbrev pub invariant-walk_legs-loop-leg : goal.invariant-walk_legs-loop-leg
invariant-walk_legs-loop-leg l = LegsSo l.leg-items l.leg-index l.scope l.fn.left l.left
