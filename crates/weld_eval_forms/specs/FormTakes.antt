-- What the forms take beside what their types say, and what they answer on the way.
use Rattle.std.specs.Prelude.{◌≡◌, Bool, true, false, ◌&&◌, if◌then◌else◌, List, [], ◌∷◌, ◌++◌, map, Result, Ok, Err}
use Rattle.weld_data.specs.declared.stop.Stop.{Stop}
use Rattle.weld_data.specs.declared.stop.Stop.TheVariants.{Fault, Memory}
use Rattle.weld_data.specs.Value.{Value}
use Rattle.weld_data.specs.View.{view_val}
use Rattle.weld_data.specs.declared.value.Val.{Val}
use Rattle.weld_tree.specs.TypeTree.{TypeTree, TypeTrees, no_types, more_types}
use Rattle.weld_tree.specs.Types.{IsBuilderFree, pair_of}
use Rattle.weld_tree.specs.ExprTree.{Three, if_else, select, slice, Many}
use Rattle.weld_builders.specs.Outcome.{Outcome, done, and_then}
use Rattle.weld_meaning.specs.Evaluation.{next_turn}
use Rattle.weld_meaning.specs.Thing.{Thing, plain, building, several, Things, no_things, more_things, as_value}
use Rattle.weld_meaning.specs.Typing.{ManyHas, truth_type}
use Rattle.weld_meaning.specs.ThingType.{HasThing}
use Rattle.weld_eval.specs.declared.thing.Owned.{Owned}
use Rattle.weld_eval.specs.ThingView.{thing_of}

-- ---- three parts

-- all three are always evaluated
abbrev pub AreAllEvaluated : Three → Type 0
AreAllEvaluated if_else = ⊥
AreAllEvaluated select = Unit {0}
AreAllEvaluated slice = Unit {0}

-- ---- vectors and structs

-- these things before those
abbrev pub before_things : List Thing → Things → Things
before_things [] ts = ts
before_things (x ∷ xs) ts = more_things x (before_things xs ts)

-- things as plain data
abbrev pub pack_things : List Thing → Things
pack_things xs = before_things xs no_things

-- the things in the code
abbrev pub all_of : List Owned → List Thing
all_of xs = map thing_of xs

-- each thing is of its type
abbrev pub AreOfTypes : Things → TypeTrees → Type 0
AreOfTypes no_things no_types = Unit {0}
AreOfTypes no_things (more_types u us) = ⊥
AreOfTypes (more_things x xs) no_types = ⊥
AreOfTypes (more_things x xs) (more_types u us) = HasThing x u × AreOfTypes xs us

-- whether the thing is a value, and whether each is
abbrev pub is_value : Thing → Bool
is_value (plain v) = true
is_value (building p) = false
is_value (several ts) = false

abbrev pub all_are_values : List Thing → Bool
all_are_values [] = true
all_are_values (x ∷ xs) = is_value x && all_are_values xs

-- the values among things
abbrev pub value_in : Thing → List Value
value_in (plain v) = v ∷ []
value_in (building p) = []
value_in (several ts) = []

abbrev pub values_among : List Thing → List Value
values_among [] = []
values_among (x ∷ xs) = value_in x ++ values_among xs

pub record ManyTakes (o : Many) (ts : Things) : Type 0 where
  pub types : TypeTrees
  pub answer : TypeTree
  pub rule : ManyHas o types answer
  pub have : AreOfTypes ts types

-- ---- turns

-- a state and a truth value
abbrev pub IsTurn : Thing → Type 0
IsTurn x = (t : TypeTree) × IsBuilderFree t × HasThing x (pair_of t truth_type)

-- the turn's next state, and whether to go on from it
abbrev pub IsNext : Value → Value → Bool → Type 0
IsNext v state more = (go : Value → Outcome Value) → next_turn v go ≡ (if more then go state else done state)

-- the state, and whether to go on from it
abbrev pub TurnAnswer : Result (Val × Bool) Stop → Thing → Type 0
TurnAnswer (Ok p) x = (go : Value → Outcome Value) → and_then (as_value x) (λ v. next_turn v go) ≡ (if p.1 then go (view_val p.0) else done (view_val p.0))
TurnAnswer (Err Fault) x = ⊥
TurnAnswer (Err Memory) x = Unit {0}
