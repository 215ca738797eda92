use Rattle.std.proofs.Common.{◌≡◌, ◌+◌, ◌*◌, ◌-◌, ◌^◌, ◌≤◌, min, drop, map}
use Rattle.weld_tree.specs.ExprTree.{pack_exprs, pack_legs}
use Rattle.weld_tree.specs.ExprView.{view_leg}
use Rattle.weld_tree.specs.ExprFalls.{expr_nodes, exprs_nodes, leg_nodes, legs_nodes}
use Rattle.weld_handing.specs.Merging.{all_list_merges, legs_list_merges}
use Rattle.weld_handing.proofs.merging.+merges.Given as goal

-- the measure: six times the nodes, so that a node, a list, a leg and its parts differ

abbrev pub decreases-list_merges : goal.decreases-list_merges
decreases-list_merges l = 6 * expr_nodes l.e.now

abbrev pub decreases-merges_in_two : goal.decreases-merges_in_two
decreases-merges_in_two l = 6 * (expr_nodes l.first.now + expr_nodes l.second.now) + 1

abbrev pub decreases-merges_in_three : goal.decreases-merges_in_three
decreases-merges_in_three l = 6 * (expr_nodes l.first.now + expr_nodes l.second.now + expr_nodes l.third.now) + 1

abbrev pub decreases-merges_in_let : goal.decreases-merges_in_let
decreases-merges_in_let l = 6 * (expr_nodes l.value.now + expr_nodes l.body.now) + 1

abbrev pub decreases-merges_in_loop : goal.decreases-merges_in_loop
decreases-merges_in_loop l = 6 * (legs_nodes (pack_legs l.legs.now) + expr_nodes l.builder.now) + 5

abbrev pub decreases-merges_in_all : goal.decreases-merges_in_all
decreases-merges_in_all l = 6 * exprs_nodes (pack_exprs l.parts.now) + 1

abbrev pub decreases-merges_in_leg : goal.decreases-merges_in_leg
decreases-merges_in_leg l = 6 * leg_nodes (view_leg l.leg.now) + 3

abbrev pub decreases-merges_in_strided : goal.decreases-merges_in_strided
decreases-merges_in_strided l = 6 * (expr_nodes l.e.now + expr_nodes l.from.now + expr_nodes l.to.now + expr_nodes l.by.now) + 2

abbrev pub decreases-merges_in_legs : goal.decreases-merges_in_legs
decreases-merges_in_legs l = 6 * legs_nodes (pack_legs l.legs.now) + 4

-- the sum so far and what is left make the whole, where it fits

abbrev pub invariant-merges_in_all-loop-part : goal.invariant-merges_in_all-loop-part
invariant-merges_in_all-loop-part l =
    (l.sum ≤ 2 ^ 64 - 1) × (min (l.sum + all_list_merges l.scope (pack_exprs (drop l.part-index l.part-items))) (2 ^ 64 - 1) ≡ min (all_list_merges l.scope (pack_exprs l.part-items)) (2 ^ 64 - 1))

abbrev pub invariant-merges_in_legs-loop-leg : goal.invariant-merges_in_legs-loop-leg
invariant-merges_in_legs-loop-leg l =
    (l.sum ≤ 2 ^ 64 - 1) × (min (l.sum + legs_list_merges l.scope (pack_legs (map view_leg (drop l.leg-index l.leg-items)))) (2 ^ 64 - 1) ≡ min (legs_list_merges l.scope (pack_legs (map view_leg l.leg-items))) (2 ^ 64 - 1))
