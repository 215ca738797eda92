use Rattle.std.proofs.Common.{◌≡◌, drop, map}
use Rattle.weld_linear.specs.AvailableView.{view_builder, same_left}
use Rattle.weld_linear.proofs.available.same_builders.Given as goal

-- those so far are the same, so that the rest decides
abbrev pub invariant-loop-i : goal.invariant-loop-i
invariant-loop-i l = same_left (map view_builder l.builders) (map view_builder l.others) ≡ same_left (map view_builder (drop l.i l.builders)) (map view_builder (drop l.i l.others))
