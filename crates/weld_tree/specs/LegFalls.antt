-- Legs are smaller than their list.
use Rattle.std.specs.Prelude.{◌+◌, ◌*◌, ◌≤◌, List, [], ◌∷◌, map}
use Rattle.std.proofs.Common.{arith}
use denote.Param.Weighed.{most}
use Rattle.weld_tree.specs.ExprFalls.{leg_nodes, legs_size}
use Rattle.weld_tree.specs.ExprView.{view_leg}
use Rattle.weld_tree.specs.declared.expr.Leg.{Leg}
use Rattle.weld_tree.specs.declared.expr.Leg.TheVariants.{Whole, Strided}
use Rattle.weld_tree.specs.declared.expr.Expr.TheDeep.{deep-Leg}

leg_falls : (l : Leg) → deep-Leg l ≤ 2 * leg_nodes (view_leg l) + 1
leg_falls (Whole e) = omega arith
leg_falls (Strided e f g h) = omega arith

pub most-legs_size : (ls : List Leg) → most deep-Leg ls ≤ legs_size (map view_leg ls)
most-legs_size [] = omega arith
most-legs_size (l ∷ ls) = omega (arith, leg_falls l, most-legs_size ls)
