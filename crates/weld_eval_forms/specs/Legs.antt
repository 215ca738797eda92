-- The legs of a loop in the code.
use Rattle.std.specs.Prelude.{List, [], ◌∷◌, map}
use Rattle.weld_data.specs.Value.{Value, number, list, struct, dict, list_of_values}
use Rattle.weld_builders.specs.Outcome.{Outcome, and_then}
use Rattle.weld_meaning.specs.Thing.{Thing, plain, building, several, as_value}
use Rattle.weld_meaning.specs.Evaluation.{strided_of}
use Rattle.weld_eval.specs.Fits.{IsList, IsPlaceNumber}
use Rattle.weld_eval.specs.declared.thing.Held.{Held}
use Rattle.weld_eval.specs.ThingView.{held_of}
-- the rows of such legs
pub use Rattle.weld_eval.specs.RowLists.{or_none, rows_in, RowsAnswer, all_long, AllReach, elements_at}

-- the elements of a vector
abbrev pub elements_of_value : Value → List Value
elements_of_value (number k x) = []
elements_of_value (list vs) = list_of_values vs
elements_of_value (struct vs) = []
elements_of_value (dict es) = []

abbrev pub elements_of_thing : Thing → List Value
elements_of_thing (plain v) = elements_of_value v
elements_of_thing (building p) = []
elements_of_thing (several ts) = []

abbrev pub elements_in : Held → List Value
elements_in x = elements_of_thing (held_of x)

-- the elements of each leg
abbrev pub leg_lists : List Held → List (List Value)
leg_lists hs = map elements_in hs

-- the thing is a vector
abbrev pub IsVector : Thing → Type 0
IsVector (plain v) = IsList v
IsVector (building p) = ⊥
IsVector (several ts) = ⊥

abbrev pub AreVectors : List Held → Type 0
AreVectors [] = Unit {0}
AreVectors (h ∷ hs) = IsVector (held_of h) × AreVectors hs

-- the thing is a number of kind i64
abbrev pub IsPlace : Thing → Type 0
IsPlace (plain v) = IsPlaceNumber v
IsPlace (building p) = ⊥
IsPlace (several ts) = ⊥

-- the elements that a leg with bounds and a stride runs over
abbrev pub strided_elements : Thing → Thing → Thing → Thing → Outcome (List Value)
strided_elements v s e d = and_then (as_value v) (λ a. and_then (as_value s) (λ x. and_then (as_value e) (λ y. and_then (as_value d) (λ z. strided_of a x y z))))
