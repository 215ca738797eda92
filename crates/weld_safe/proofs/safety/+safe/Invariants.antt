use Rattle.std.proofs.Common.{◌≡◌, ◌+◌, ◌*◌, drop}
use Rattle.weld_tree.specs.ExprTree.{pack_exprs, pack_legs}
use Rattle.weld_tree.specs.ExprView.{view_leg}
use Rattle.weld_tree.specs.ExprFalls.{expr_nodes, exprs_nodes, leg_nodes, legs_nodes}
use Rattle.weld_safe.specs.Test.{all_safe}
use Rattle.weld_safe.proofs.safety.+safe.Given as goal

abbrev pub decreases-test_safe : goal.decreases-test_safe
decreases-test_safe l = 4 * expr_nodes l.e.now

abbrev pub decreases-all_safe : goal.decreases-all_safe
decreases-all_safe l = 4 * exprs_nodes (pack_exprs l.parts.now) + 1

abbrev pub decreases-leg_safe : goal.decreases-leg_safe
decreases-leg_safe l = 4 * leg_nodes (view_leg l.leg.now) + 1

abbrev pub decreases-one_leg_safe : goal.decreases-one_leg_safe
decreases-one_leg_safe l = 4 * legs_nodes (pack_legs l.legs.now) + 2

-- all so far are safe, so it is as the rest is
abbrev pub invariant-all_safe-loop-part : goal.invariant-all_safe-loop-part
invariant-all_safe-loop-part l = all_safe (pack_exprs l.part-items) ≡ all_safe (pack_exprs (drop l.part-index l.part-items))
