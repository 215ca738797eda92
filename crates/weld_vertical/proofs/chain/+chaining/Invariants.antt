use Rattle.std.proofs.Common.{◌≡◌, ◌+◌, ◌*◌, ◌-◌, map}
use Rattle.weld_tree.specs.ExprTree.{pack_legs}
use Rattle.weld_tree.specs.ExprFalls.{expr_nodes, leg_nodes, legs_nodes}
use Rattle.weld_tree.specs.ExprView.{view_form, view_leg}
use Rattle.weld_tree.specs.Blank.{blank_at}
use Rattle.weld_rewriting.proofs.Lists.{up_to}
use Rattle.weld_vertical.specs.Chains.{leg_fused}
use Rattle.weld_vertical.proofs.chain.+chaining.Given as goal

-- ten times the nodes, so that a form, a list and its parts differ

abbrev pub decreases-fuse_chain : goal.decreases-fuse_chain
decreases-fuse_chain l = 10 * expr_nodes l.e.now

abbrev pub decreases-fuse_below : goal.decreases-fuse_below
decreases-fuse_below l = 10 * expr_nodes (view_form l.form.now blank_at) - 1

abbrev pub decreases-fuse_legs : goal.decreases-fuse_legs
decreases-fuse_legs l = 10 * legs_nodes (pack_legs l.legs.now) + 5

abbrev pub decreases-fuse_each_leg : goal.decreases-fuse_each_leg
decreases-fuse_each_leg l = 10 * legs_nodes (pack_legs (map view_leg l.legs.now)) + 4

abbrev pub decreases-fuse_leg : goal.decreases-fuse_leg
decreases-fuse_leg l = 10 * leg_nodes (view_leg l.leg.now) + 3

-- those so far are fused

abbrev pub invariant-fuse_each_leg-loop-leg : goal.invariant-fuse_each_leg-loop-leg
invariant-fuse_each_leg-loop-leg l = map view_leg l.legs ≡ up_to leg_fused l.leg-index (map view_leg l.initial.legs)
