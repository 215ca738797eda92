use Rattle.std.proofs.Common.{◌≡◌, ◌+◌, ◌*◌, ◌-◌, drop, map}
use Rattle.weld_tree.specs.ExprTree.{pack_exprs, pack_legs}
use Rattle.weld_tree.specs.ExprFalls.{expr_nodes, exprs_nodes, leg_nodes, legs_nodes}
use Rattle.weld_tree.specs.ExprView.{view_leg}
use Rattle.weld_meaning.specs.Origin.{origins}
use Rattle.weld_rewriting.proofs.Lists.{up_to}
use Rattle.weld_handing.specs.Merging.{all_list_merges, legs_list_merges}
use Rattle.weld_handing.specs.Walking.{handed_for, leg_handed_for}
use Rattle.weld_handing.proofs.Lists.{behind}
use Rattle.weld_handing.proofs.Handed.{IsTaken}
use Rattle.weld_handing.proofs.hand.+hand.Given as goal

-- ten times the nodes, so that a node, a list, a leg and its parts differ

abbrev pub decreases-hand : goal.decreases-hand
decreases-hand l = 10 * expr_nodes l.e.now

abbrev pub decreases-hand_parts : goal.decreases-hand_parts
decreases-hand_parts l = 10 * expr_nodes l.e.now - 1

abbrev pub decreases-hand_one : goal.decreases-hand_one
decreases-hand_one l = 10 * expr_nodes l.part.now + 1

abbrev pub decreases-hand_two : goal.decreases-hand_two
decreases-hand_two l = 10 * (expr_nodes l.first.now + expr_nodes l.second.now) + 1

abbrev pub decreases-hand_three : goal.decreases-hand_three
decreases-hand_three l = 10 * (expr_nodes l.first.now + expr_nodes l.second.now + expr_nodes l.third.now) + 1

abbrev pub decreases-hand_many : goal.decreases-hand_many
decreases-hand_many l = 10 * exprs_nodes (pack_exprs l.parts.now) + 2

abbrev pub decreases-hand_each : goal.decreases-hand_each
decreases-hand_each l = 10 * exprs_nodes (pack_exprs l.parts.now) + 1

abbrev pub decreases-hand_let : goal.decreases-hand_let
decreases-hand_let l = 10 * (expr_nodes l.value.now + expr_nodes l.body.now) + 1

abbrev pub decreases-hand_loop : goal.decreases-hand_loop
decreases-hand_loop l = 10 * (legs_nodes (pack_legs l.legs.now) + expr_nodes l.builder.now) + 5

abbrev pub decreases-hand_each_leg : goal.decreases-hand_each_leg
decreases-hand_each_leg l = 10 * legs_nodes (pack_legs (map view_leg l.legs.now)) + 4

abbrev pub decreases-hand_leg : goal.decreases-hand_leg
decreases-hand_leg l = 10 * leg_nodes (view_leg l.leg.now) + 3

abbrev pub decreases-hand_whole : goal.decreases-hand_whole
decreases-hand_whole l = 10 * expr_nodes l.e.now + 1

abbrev pub decreases-hand_strided : goal.decreases-hand_strided
decreases-hand_strided l = 10 * (expr_nodes l.e.now + expr_nodes l.from.now + expr_nodes l.to.now + expr_nodes l.by.now) + 2

abbrev pub decreases-hand_state : goal.decreases-hand_state
decreases-hand_state l = 10 * expr_nodes l.state.now + 1

-- those so far are handed over, and the consumer is what they left

abbrev pub invariant-hand_each-loop-part : goal.invariant-hand_each-loop-part
invariant-hand_each-loop-part l = record {
  sources : origins (pack_exprs l.initial.parts) l.scope ≡ behind l.sources (origins (pack_exprs (drop l.part-index l.initial.parts)) l.scope);
  taken : IsTaken (all_list_merges l.scope (pack_exprs l.initial.parts)) (all_list_merges l.scope (pack_exprs (drop l.part-index l.initial.parts))) l.initial.consumer l.consumer;
  handed : l.parts ≡ up_to (handed_for l.ty l.count.0 l.initial.consumer l.scope) l.part-index l.initial.parts;
}

abbrev pub invariant-hand_each_leg-loop-leg : goal.invariant-hand_each_leg-loop-leg
invariant-hand_each_leg-loop-leg l = record {
  taken : IsTaken (legs_list_merges l.scope (pack_legs (map view_leg l.initial.legs))) (legs_list_merges l.scope (pack_legs (drop l.leg-index (map view_leg l.initial.legs)))) l.initial.consumer l.consumer;
  handed : map view_leg l.legs ≡ up_to (leg_handed_for l.ty l.count.0 l.initial.consumer l.scope) l.leg-index (map view_leg l.initial.legs);
}
