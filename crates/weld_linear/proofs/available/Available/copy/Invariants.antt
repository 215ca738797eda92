use Rattle.std.proofs.Common.{◌≡◌, take, map}
use Rattle.weld_linear.specs.AvailableView.{view_builder}
use Rattle.weld_linear.proofs.available.Available.copy.Given as goal

abbrev pub invariant-loop-builder : goal.invariant-loop-builder
invariant-loop-builder l = l.copy ≡ map view_builder (take l.builder-index l.builder-items)
