use Rattle.std.proofs.Common.{◌≡◌, take, map}
use Rattle.weld_tree.specs.ExprView.{view_leg}
use Rattle.weld_horizontal.specs.Twice.{leg_item}
use Rattle.weld_horizontal.proofs.row.items_of.Given as goal

abbrev pub invariant-loop-leg : goal.invariant-loop-leg
invariant-loop-leg l = l.types ≡ map (λ leg. leg_item (view_leg leg)) (take l.leg-index l.legs)
