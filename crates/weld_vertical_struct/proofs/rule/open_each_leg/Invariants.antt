use Rattle.std.proofs.Common.{◌≡◌, map}
use Rattle.weld_tree.specs.ExprView.{view_leg}
use Rattle.weld_rewriting.proofs.Lists.{up_to}
use Rattle.weld_vertical_struct.specs.Held.{opened_leg}
use Rattle.weld_vertical_struct.proofs.rule.open_each_leg.Given as goal

-- those so far have their pairs taken apart
abbrev pub invariant-loop-leg : goal.invariant-loop-leg
invariant-loop-leg l = map view_leg l.legs ≡ up_to (opened_leg l.part.0) l.leg-index (map view_leg l.initial.legs)
