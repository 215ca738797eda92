use Rattle.std.proofs.Common.{◌≡◌, ◌+◌, ◌*◌, ◌++◌, drop, map}
use Rattle.weld_tree.specs.ExprTree.{pack_exprs, pack_legs}
use Rattle.weld_tree.specs.ExprView.{view_leg}
use Rattle.weld_tree.specs.ExprFalls.{expr_nodes, exprs_nodes, leg_nodes, legs_nodes}
use Rattle.weld_sizes.specs.Marks.{marks_among, marks_in_legs}
use Rattle.weld_sizes.specs.Sized.{has_sized_form}
use Rattle.weld_sizes.proofs.marking.+mark.Given as goal

abbrev pub decreases-mark : goal.decreases-mark
decreases-mark l = 4 * expr_nodes l.e.now

abbrev pub decreases-mark_two : goal.decreases-mark_two
decreases-mark_two l = 4 * (expr_nodes l.first.now + expr_nodes l.second.now) + 1

abbrev pub decreases-mark_all : goal.decreases-mark_all
decreases-mark_all l = 4 * exprs_nodes (pack_exprs l.parts.now) + 1

abbrev pub decreases-mark_leg : goal.decreases-mark_leg
decreases-mark_leg l = 4 * leg_nodes (view_leg l.leg.now) + 2

abbrev pub decreases-mark_legs : goal.decreases-mark_legs
decreases-mark_legs l = 4 * legs_nodes (pack_legs l.legs.now) + 3

-- the marks so far, and those of the rest, are the marks of all

abbrev pub invariant-mark_all-loop-part : goal.invariant-mark_all-loop-part
invariant-mark_all-loop-part l =
    l.initial.marks ++ marks_among has_sized_form (pack_exprs l.part-items) ≡ l.marks ++ marks_among has_sized_form (pack_exprs (drop l.part-index l.part-items))

abbrev pub invariant-mark_legs-loop-leg : goal.invariant-mark_legs-loop-leg
invariant-mark_legs-loop-leg l =
    l.initial.marks ++ marks_in_legs has_sized_form (pack_legs (map view_leg l.leg-items)) ≡ l.marks ++ marks_in_legs has_sized_form (pack_legs (map view_leg (drop l.leg-index l.leg-items)))
