-- What the legs of a loop in the code stand for.
use Rattle.std.specs.Prelude.{List, [], ◌∷◌}
use Rattle.weld_data.specs.View.{view_column}
use Rattle.weld_data.specs.Value.{Value}
use Rattle.weld_eval.specs.declared.legs.Legs.{Legs, fold-Legs}
use Rattle.weld_eval.specs.declared.legs.Legs.TheOpen.{Legs-F}

abbrev pub legs_step : Legs-F (List (List Value)) → List (List Value)
legs_step Legs-F.End = []
legs_step (Legs-F.And column rest) = view_column column.now ∷ rest.now

-- the elements of each leg
abbrev pub lists_of : Legs → List (List Value)
lists_of = fold-Legs (List (List Value)) legs_step
