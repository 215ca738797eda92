use Rattle.std.proofs.Common.{◌≡◌, ◌+◌, ◌*◌, drop, map}
use Rattle.weld_tree.specs.ExprTree.{pack_exprs, pack_legs}
use Rattle.weld_tree.specs.ExprView.{view_leg}
use Rattle.weld_tree.specs.ExprFalls.{expr_nodes, exprs_nodes, leg_nodes, legs_nodes}
use Rattle.weld_acts.specs.Test.{all_direct, legs_direct}
use Rattle.weld_acts.proofs.directness.+direct.Given as goal

abbrev pub decreases-test_direct : goal.decreases-test_direct
decreases-test_direct l = 4 * expr_nodes l.e.now

abbrev pub decreases-all_direct : goal.decreases-all_direct
decreases-all_direct l = 4 * exprs_nodes (pack_exprs l.parts.now) + 1

abbrev pub decreases-leg_direct : goal.decreases-leg_direct
decreases-leg_direct l = 4 * leg_nodes (view_leg l.leg.now) + 1

abbrev pub decreases-legs_direct : goal.decreases-legs_direct
decreases-legs_direct l = 4 * legs_nodes (pack_legs l.legs.now) + 2

-- all so far are direct, so it is as the rest is
abbrev pub invariant-all_direct-loop-part : goal.invariant-all_direct-loop-part
invariant-all_direct-loop-part l = all_direct (pack_exprs l.part-items) ≡ all_direct (pack_exprs (drop l.part-index l.part-items))

abbrev pub invariant-legs_direct-loop-leg : goal.invariant-legs_direct-loop-leg
invariant-legs_direct-loop-leg l = legs_direct (pack_legs (map view_leg l.leg-items)) ≡ legs_direct (pack_legs (map view_leg (drop l.leg-index l.leg-items)))
