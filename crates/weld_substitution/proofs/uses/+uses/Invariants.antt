use Rattle.std.proofs.Common.{◌≡◌, ◌+◌, ◌*◌, ◌-◌, ◌^◌, ◌≤◌, min, drop, map}
use Rattle.weld_tree.specs.ExprTree.{pack_exprs, pack_legs}
use Rattle.weld_tree.specs.ExprView.{view_leg}
use Rattle.weld_tree.specs.ExprFalls.{expr_nodes, exprs_nodes, leg_nodes, legs_nodes}
use Rattle.weld_substitution.specs.Uses.{uses_in, uses_in_legs}
use Rattle.weld_substitution.proofs.uses.+uses.Given as goal

abbrev pub decreases-uses_of : goal.decreases-uses_of
decreases-uses_of l = 4 * expr_nodes l.e.now

abbrev pub decreases-uses_in : goal.decreases-uses_in
decreases-uses_in l = 4 * exprs_nodes (pack_exprs l.parts.now) + 1

abbrev pub decreases-uses_in_leg : goal.decreases-uses_in_leg
decreases-uses_in_leg l = 4 * leg_nodes (view_leg l.leg.now) + 1

abbrev pub decreases-uses_in_legs : goal.decreases-uses_in_legs
decreases-uses_in_legs l = 4 * legs_nodes (pack_legs l.legs.now) + 2

-- the sum so far and what is left make the whole, where it fits

abbrev pub invariant-uses_in-loop-part : goal.invariant-uses_in-loop-part
invariant-uses_in-loop-part l = (l.sum ≤ 2 ^ 64 - 1) × (min (l.sum + uses_in (pack_exprs (drop l.part-index l.part-items)) l.name.0) (2 ^ 64 - 1) ≡ min (uses_in (pack_exprs l.part-items) l.name.0) (2 ^ 64 - 1))

abbrev pub invariant-uses_in_legs-loop-leg : goal.invariant-uses_in_legs-loop-leg
invariant-uses_in_legs-loop-leg l = (l.sum ≤ 2 ^ 64 - 1) × (min (l.sum + uses_in_legs (pack_legs (map view_leg (drop l.leg-index l.leg-items))) l.name.0) (2 ^ 64 - 1) ≡ min (uses_in_legs (pack_legs (map view_leg l.leg-items)) l.name.0) (2 ^ 64 - 1))
