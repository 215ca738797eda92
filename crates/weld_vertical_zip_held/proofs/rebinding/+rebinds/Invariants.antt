use Rattle.std.proofs.Common.{◌≡◌, ◌+◌, ◌*◌, drop, map}
use Rattle.weld_tree.specs.ExprTree.{pack_exprs, pack_legs}
use Rattle.weld_tree.specs.ExprView.{view_leg}
use Rattle.weld_tree.specs.ExprFalls.{expr_nodes, exprs_nodes, leg_nodes, legs_nodes}
use Rattle.weld_vertical_zip_held.specs.Rule.{some_rebind, legs_rebind}
use Rattle.weld_vertical_zip_held.proofs.rebinding.+rebinds.Given as goal

-- the measure: four times the nodes, so that a node, a list and a leg differ

abbrev pub decreases-rebinds : goal.decreases-rebinds
decreases-rebinds l = 4 * expr_nodes l.e.now

abbrev pub decreases-some_rebind : goal.decreases-some_rebind
decreases-some_rebind l = 4 * exprs_nodes (pack_exprs l.parts.now) + 1

abbrev pub decreases-leg_rebinds : goal.decreases-leg_rebinds
decreases-leg_rebinds l = 4 * leg_nodes (view_leg l.leg.now) + 1

abbrev pub decreases-legs_rebind : goal.decreases-legs_rebind
decreases-legs_rebind l = 4 * legs_nodes (pack_legs l.legs.now) + 2

-- what is left decides

abbrev pub invariant-some_rebind-loop-part : goal.invariant-some_rebind-loop-part
invariant-some_rebind-loop-part l = some_rebind l.name.0 (pack_exprs l.part-items) ≡ some_rebind l.name.0 (pack_exprs (drop l.part-index l.part-items))

abbrev pub invariant-legs_rebind-loop-leg : goal.invariant-legs_rebind-loop-leg
invariant-legs_rebind-loop-leg l = legs_rebind l.name.0 (pack_legs (map view_leg l.leg-items)) ≡ legs_rebind l.name.0 (pack_legs (map view_leg (drop l.leg-index l.leg-items)))
