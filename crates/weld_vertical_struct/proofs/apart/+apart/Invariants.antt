use Rattle.std.proofs.Common.{◌≡◌, ◌+◌, ◌*◌, drop, map}
use Rattle.weld_tree.specs.ExprTree.{pack_exprs, pack_legs}
use Rattle.weld_tree.specs.ExprView.{view_leg}
use Rattle.weld_tree.specs.ExprFalls.{expr_nodes, exprs_nodes, leg_nodes, legs_nodes}
use Rattle.weld_vertical_struct.specs.Parting.{are_apart, legs_are_apart}
use Rattle.weld_vertical_struct.proofs.apart.+apart.Given as goal

abbrev pub decreases-is_apart : goal.decreases-is_apart
decreases-is_apart l = 4 * expr_nodes l.e.now

abbrev pub decreases-one_is_apart : goal.decreases-one_is_apart
decreases-one_is_apart l = 4 * expr_nodes l.part.now + 1

abbrev pub decreases-are_apart : goal.decreases-are_apart
decreases-are_apart l = 4 * exprs_nodes (pack_exprs l.parts.now) + 1

abbrev pub decreases-leg_is_apart : goal.decreases-leg_is_apart
decreases-leg_is_apart l = 4 * leg_nodes (view_leg l.leg.now) + 2

abbrev pub decreases-legs_are_apart : goal.decreases-legs_are_apart
decreases-legs_are_apart l = 4 * legs_nodes (pack_legs l.legs.now) + 3

-- all so far are, so it is as the rest says

abbrev pub invariant-are_apart-loop-part : goal.invariant-are_apart-loop-part
invariant-are_apart-loop-part l = are_apart l.pair.0 l.name.0 (pack_exprs l.part-items) ≡ are_apart l.pair.0 l.name.0 (pack_exprs (drop l.part-index l.part-items))

abbrev pub invariant-legs_are_apart-loop-leg : goal.invariant-legs_are_apart-loop-leg
invariant-legs_are_apart-loop-leg l = legs_are_apart l.pair.0 l.name.0 (pack_legs (map view_leg l.leg-items)) ≡ legs_are_apart l.pair.0 l.name.0 (pack_legs (map view_leg (drop l.leg-index l.leg-items)))
