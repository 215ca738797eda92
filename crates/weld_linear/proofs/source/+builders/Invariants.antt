use Rattle.std.proofs.Common.{◌≡◌, ◌++◌, drop}
use Rattle.weld_meaning.specs.LinearWalk.{paths_of_fields}
use Rattle.weld_linear.specs.Sources.{pack_origins}
use Rattle.weld_linear.specs.AvailableView.{of_name}
use Rattle.weld_linear.proofs.source.+builders.Given as goal

-- those so far, and what is left of the fields
abbrev pub invariant-Sources::push_builders-loop-number : goal.invariant-Sources::push_builders-loop-number
invariant-Sources::push_builders-loop-number l =
    l.found ++ of_name l.name.0 (paths_of_fields l.number l.path (pack_origins (drop l.number l.self))) ≡ l.initial.found ++ of_name l.name.0 (paths_of_fields 0 l.path (pack_origins l.self))
