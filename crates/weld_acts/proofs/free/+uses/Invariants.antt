use Rattle.std.proofs.Common.{◌≡◌, ◌+◌, ◌*◌, drop, map}
use Rattle.weld_tree.specs.ExprTree.{pack_exprs, pack_legs}
use Rattle.weld_tree.specs.ExprView.{view_leg}
use Rattle.weld_tree.specs.ExprFalls.{expr_nodes, exprs_nodes, leg_nodes, legs_nodes}
use Rattle.weld_acts.specs.Test.{some_use, legs_use}
use Rattle.weld_acts.proofs.free.+uses.Given as goal

abbrev pub decreases-uses : goal.decreases-uses
decreases-uses l = 4 * expr_nodes l.e.now

abbrev pub decreases-some_use : goal.decreases-some_use
decreases-some_use l = 4 * exprs_nodes (pack_exprs l.parts.now) + 1

abbrev pub decreases-leg_uses : goal.decreases-leg_uses
decreases-leg_uses l = 4 * leg_nodes (view_leg l.leg.now) + 1

abbrev pub decreases-legs_use : goal.decreases-legs_use
decreases-legs_use l = 4 * legs_nodes (pack_legs l.legs.now) + 2

-- none so far uses it, so it is as the rest does
abbrev pub invariant-some_use-loop-part : goal.invariant-some_use-loop-part
invariant-some_use-loop-part l = some_use (pack_exprs l.part-items) l.name.0 ≡ some_use (pack_exprs (drop l.part-index l.part-items)) l.name.0

abbrev pub invariant-legs_use-loop-leg : goal.invariant-legs_use-loop-leg
invariant-legs_use-loop-leg l = legs_use (pack_legs (map view_leg l.leg-items)) l.name.0 ≡ legs_use (pack_legs (map view_leg (drop l.leg-index l.leg-items))) l.name.0
