use Rattle.std.proofs.Common.{◌≡◌, ◌+◌, ◌*◌, ◌-◌, ◌^◌, ◌≤◌, min, drop, map}
use Rattle.weld_tree.specs.ExprTree.{pack_exprs, pack_legs}
use Rattle.weld_tree.specs.ExprView.{view_leg}
use Rattle.weld_tree.specs.ExprFalls.{expr_nodes, exprs_nodes, leg_nodes, legs_nodes}
use Rattle.weld_sizes.specs.Marks.{set_among, marks_among, marks_in_legs}
use Rattle.weld_sizes.proofs.count.+count.Given as goal

abbrev pub decreases-count : goal.decreases-count
decreases-count g l = 4 * expr_nodes l.e.now

abbrev pub decreases-count_all : goal.decreases-count_all
decreases-count_all g l = 4 * exprs_nodes (pack_exprs l.parts.now) + 1

abbrev pub decreases-count_leg : goal.decreases-count_leg
decreases-count_leg g l = 4 * leg_nodes (view_leg l.leg.now) + 1

abbrev pub decreases-count_legs : goal.decreases-count_legs
decreases-count_legs g l = 4 * legs_nodes (pack_legs l.legs.now) + 2

-- the sum so far and what is left make the whole, where it fits

abbrev pub invariant-count_all-loop-part : goal.invariant-count_all-loop-part
invariant-count_all-loop-part g l = (l.sum ≤ 2 ^ 64 - 1) × (min (l.sum + set_among (marks_among g.F.LoopForm.form (pack_exprs (drop l.part-index l.part-items)))) (2 ^ 64 - 1) ≡ min (set_among (marks_among g.F.LoopForm.form (pack_exprs l.part-items))) (2 ^ 64 - 1))

abbrev pub invariant-count_legs-loop-leg : goal.invariant-count_legs-loop-leg
invariant-count_legs-loop-leg g l = (l.sum ≤ 2 ^ 64 - 1) × (min (l.sum + set_among (marks_in_legs g.F.LoopForm.form (pack_legs (map view_leg (drop l.leg-index l.leg-items))))) (2 ^ 64 - 1) ≡ min (set_among (marks_in_legs g.F.LoopForm.form (pack_legs (map view_leg l.leg-items)))) (2 ^ 64 - 1))
