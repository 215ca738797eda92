use Rattle.std.proofs.Common.{◌≡◌, ◌+◌, ◌*◌, ◌++◌, take, map}
use Rattle.weld_tree.specs.ExprTree.{pack_exprs, pack_legs}
use Rattle.weld_tree.specs.ExprFalls.{expr_nodes, exprs_nodes, leg_nodes, legs_nodes}
use Rattle.weld_tree.specs.ExprView.{view_leg}
use Rattle.weld_tree.specs.Program.{bound_in, bound_in_legs}
use Rattle.weld_objects.proofs.renaming.binders.+bound.Given as goal

abbrev pub decreases-push_bound : goal.decreases-push_bound
decreases-push_bound l = 8 * expr_nodes l.e.now

abbrev pub decreases-push_two : goal.decreases-push_two
decreases-push_two l = 8 * (expr_nodes l.first.now + expr_nodes l.second.now) + 1

abbrev pub decreases-push_all : goal.decreases-push_all
decreases-push_all l = 8 * exprs_nodes (pack_exprs l.parts.now) + 2

abbrev pub decreases-push_leg : goal.decreases-push_leg
decreases-push_leg l = 8 * leg_nodes (view_leg l.leg.now) + 2

abbrev pub decreases-push_legs : goal.decreases-push_legs
decreases-push_legs l = 8 * legs_nodes (pack_legs l.legs.now) + 3

-- those before have theirs in the list

abbrev pub invariant-push_all-loop-part : goal.invariant-push_all-loop-part
invariant-push_all-loop-part l = l.syms ≡ l.initial.syms ++ bound_in (pack_exprs (take l.part-index l.part-items))

abbrev pub invariant-push_legs-loop-leg : goal.invariant-push_legs-loop-leg
invariant-push_legs-loop-leg l = l.syms ≡ l.initial.syms ++ bound_in_legs (pack_legs (map view_leg (take l.leg-index l.leg-items)))
