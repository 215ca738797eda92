use Rattle.std.proofs.Common.{◌≡◌, ◌+◌, ◌*◌, ◌++◌, drop, map}
use Rattle.weld_tree.specs.ExprTree.{pack_exprs, pack_legs}
use Rattle.weld_tree.specs.ExprView.{view_leg}
use Rattle.weld_tree.specs.ExprFalls.{expr_nodes, exprs_nodes, leg_nodes, legs_nodes}
use Rattle.weld_print.specs.PrintText.{exprs_text, legs_text}
use Rattle.weld_print.proofs.write.+write.Given as goal

abbrev pub decreases-write_expr : goal.decreases-write_expr
decreases-write_expr l = 8 * expr_nodes l.e.now

abbrev pub decreases-write_part : goal.decreases-write_part
decreases-write_part l = 8 * expr_nodes l.e.now + 1

abbrev pub decreases-write_one : goal.decreases-write_one
decreases-write_one l = 8 * expr_nodes l.part.now + 2

abbrev pub decreases-write_two : goal.decreases-write_two
decreases-write_two l = 8 * (expr_nodes l.left.now + expr_nodes l.right.now) + 2

abbrev pub decreases-write_three : goal.decreases-write_three
decreases-write_three l = 8 * (expr_nodes l.first.now + expr_nodes l.second.now + expr_nodes l.third.now) + 1

abbrev pub decreases-write_many : goal.decreases-write_many
decreases-write_many l = 8 * exprs_nodes (pack_exprs l.parts.now) + 2

abbrev pub decreases-write_parts : goal.decreases-write_parts
decreases-write_parts l = 8 * exprs_nodes (pack_exprs l.parts.now) + 1

abbrev pub decreases-write_let : goal.decreases-write_let
decreases-write_let l = 8 * (expr_nodes l.value.now + expr_nodes l.body.now) + 2

abbrev pub decreases-write_iterate : goal.decreases-write_iterate
decreases-write_iterate l = 8 * (expr_nodes l.state.now + expr_nodes l.body.now) + 2

abbrev pub decreases-write_rows : goal.decreases-write_rows
decreases-write_rows l = 8 * (legs_nodes (pack_legs l.legs.now) + expr_nodes l.builder.now) + 6

abbrev pub decreases-write_legs : goal.decreases-write_legs
decreases-write_legs l = 8 * legs_nodes (pack_legs (map view_leg l.legs.now)) + 5

abbrev pub decreases-write_further : goal.decreases-write_further
decreases-write_further l = 8 * legs_nodes (pack_legs (map view_leg l.legs.now)) + 4

abbrev pub decreases-write_leg : goal.decreases-write_leg
decreases-write_leg l = 8 * leg_nodes (view_leg l.leg.now) + 2

-- what is written and what is still to come make the whole
abbrev pub invariant-write_parts-parts : goal.invariant-write_parts-parts
invariant-write_parts-parts l = l.out ++ exprs_text l.names l.lead (pack_exprs (drop l.part-index l.part-items)) ≡ l.fn.out ++ exprs_text l.names l.front (pack_exprs l.part-items)

abbrev pub invariant-write_further-legs : goal.invariant-write_further-legs
invariant-write_further-legs l = l.out ++ legs_text l.names (pack_legs (map view_leg (drop l.leg-index l.legs))) ≡ l.fn.out ++ legs_text l.names (pack_legs (map view_leg l.legs))
