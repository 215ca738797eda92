use Rattle.std.proofs.Common.{◌≡◌, ℕ, map, take}
use Rattle.weld_meaning.specs.Typing.{noted_type}
use Rattle.weld_objects.specs.Objects.{type_at}
use Rattle.weld_lazy.specs.View.{view_ids}
use Rattle.weld_session.proofs.lower.type_of_shown.Given as goal

abbrev pub invariant-loop-id : goal.invariant-loop-id
invariant-loop-id l = l.types ≡ map (λ (id : ℕ). noted_type (type_at l.graph id)) (view_ids (take l.id-index l.shown))
