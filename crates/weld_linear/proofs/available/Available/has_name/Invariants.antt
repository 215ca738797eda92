use Rattle.std.proofs.Common.{◌≡◌, ◌==◌, drop, map}
use Rattle.weld_meaning.specs.LinearWalk.{some_of}
use Rattle.weld_linear.specs.AvailableView.{view_builder}
use Rattle.weld_linear.proofs.available.Available.has_name.Given as goal

-- none of those so far is of the name, so that the rest decides
abbrev pub invariant-loop-builder : goal.invariant-loop-builder
invariant-loop-builder l = some_of (λ e. e.0 == l.name.0) (map view_builder l.builder-items) ≡ some_of (λ e. e.0 == l.name.0) (map view_builder (drop l.builder-index l.builder-items))
