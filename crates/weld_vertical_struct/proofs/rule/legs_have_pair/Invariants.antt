use Rattle.std.proofs.Common.{◌≡◌, drop, map}
use Rattle.weld_tree.specs.ExprTree.{pack_legs}
use Rattle.weld_tree.specs.ExprView.{view_leg}
use Rattle.weld_vertical_struct.specs.Held.{legs_have_pair}
use Rattle.weld_vertical_struct.proofs.rule.legs_have_pair.Given as goal

-- there is none so far, so it is as in the rest
abbrev pub invariant-loop-leg : goal.invariant-loop-leg
invariant-loop-leg l = legs_have_pair (pack_legs (map view_leg l.leg-items)) ≡ legs_have_pair (pack_legs (map view_leg (drop l.leg-index l.leg-items)))
