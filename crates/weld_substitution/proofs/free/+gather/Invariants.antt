use Rattle.std.proofs.Common.{◌≡◌, ◌+◌, ◌*◌, drop, map}
use Rattle.weld_tree.specs.ExprTree.{pack_exprs, pack_legs}
use Rattle.weld_tree.specs.ExprView.{view_leg}
use Rattle.weld_tree.specs.ExprFalls.{expr_nodes, exprs_nodes, leg_nodes, legs_nodes}
use Rattle.weld_substitution.specs.Gathering.{bound_in_scope, all_gathered, legs_gathered}
use Rattle.weld_substitution.proofs.free.+gather.Given as goal

abbrev pub decreases-gather : goal.decreases-gather
decreases-gather l = 4 * expr_nodes l.e.now

abbrev pub decreases-gather_all : goal.decreases-gather_all
decreases-gather_all l = 4 * exprs_nodes (pack_exprs l.parts.now) + 1

abbrev pub decreases-gather_leg : goal.decreases-gather_leg
decreases-gather_leg l = 4 * leg_nodes (view_leg l.leg.now) + 1

abbrev pub decreases-gather_legs : goal.decreases-gather_legs
decreases-gather_legs l = 4 * legs_nodes (pack_legs l.legs.now) + 2

-- what is gathered so far, and then of the rest, is what is gathered of all

abbrev pub invariant-gather_all-loop-part : goal.invariant-gather_all-loop-part
invariant-gather_all-loop-part l =
    all_gathered (pack_exprs l.part-items) (bound_in_scope l.scope) l.initial.syms ≡ all_gathered (pack_exprs (drop l.part-index l.part-items)) (bound_in_scope l.scope) l.syms

abbrev pub invariant-gather_legs-loop-leg : goal.invariant-gather_legs-loop-leg
invariant-gather_legs-loop-leg l =
    legs_gathered (pack_legs (map view_leg l.leg-items)) (bound_in_scope l.scope) l.initial.syms ≡ legs_gathered (pack_legs (map view_leg (drop l.leg-index l.leg-items))) (bound_in_scope l.scope) l.syms
