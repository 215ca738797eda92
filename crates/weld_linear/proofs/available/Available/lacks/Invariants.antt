use Rattle.std.proofs.Common.{◌≡◌, drop, map, not}
use Rattle.weld_meaning.specs.LinearWalk.{has, some_of}
use Rattle.weld_linear.specs.AvailableView.{view_builder}
use Rattle.weld_linear.proofs.available.Available.lacks.Given as goal

-- those so far are there, so that the rest decides
abbrev pub invariant-loop-builder : goal.invariant-loop-builder
invariant-loop-builder l =
    some_of (λ e. not (has l.self e.0 e.1)) (map view_builder l.builder-items) ≡ some_of (λ e. not (has l.self e.0 e.1)) (map view_builder (drop l.builder-index l.builder-items))
