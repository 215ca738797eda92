use Rattle.std.proofs.Common.{◌≡◌, drop, map}
use Rattle.weld_meaning.specs.LinearWalk.{has}
use Rattle.weld_linear.specs.AvailableView.{view_builder}
use Rattle.weld_linear.proofs.available.Available.has.Given as goal

-- it isn't among those so far, so that the rest decides
abbrev pub invariant-loop-builder : goal.invariant-loop-builder
invariant-loop-builder l = has (map view_builder l.builder-items) l.name.0 l.path ≡ has (map view_builder (drop l.builder-index l.builder-items)) l.name.0 l.path
