use Rattle.std.proofs.Common.{◌≡◌, ◌+◌, ◌-◌, ◌^◌, ◌≤◌, min, drop, map}
use Rattle.weld_tree.specs.ExprTree.{pack_exprs, pack_legs}
use Rattle.weld_tree.specs.ExprView.{view_leg}
use Rattle.weld_tree.specs.Program.{loops_in, loops_in_legs}
use Rattle.weld_tree.proofs.expr.+loops.Given as goal

-- the sum so far and what is left make the whole, where it fits
abbrev pub invariant-Exprs::loops-loop-e : goal.invariant-Exprs::loops-loop-e
invariant-Exprs::loops-loop-e l = (l.sum ≤ 2 ^ 64 - 1) × (min (l.sum + loops_in (pack_exprs (drop l.e-index l.e-items))) (2 ^ 64 - 1) ≡ min (loops_in (pack_exprs l.e-items)) (2 ^ 64 - 1))

abbrev pub invariant-Legs::loops-loop-leg : goal.invariant-Legs::loops-loop-leg
invariant-Legs::loops-loop-leg l = (l.sum ≤ 2 ^ 64 - 1) × (min (l.sum + loops_in_legs (pack_legs (map view_leg (drop l.leg-index l.leg-items)))) (2 ^ 64 - 1) ≡ min (loops_in_legs (pack_legs (map view_leg l.leg-items))) (2 ^ 64 - 1))
