-- The binder that was opened last.
use Rattle.std.specs.Prelude.{Option, Some, None, List, [], ◌∷◌}
use Rattle.weld_spell.specs.ProgramOf.{Bound}
use Rattle.weld_reduce.specs.States.{Named, bound}

-- as it is seen
abbrev pub newest : List Named → Option Bound
newest [] = None
newest (b ∷ bs) = Some (bound b)
