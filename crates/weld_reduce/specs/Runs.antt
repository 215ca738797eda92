-- What the steps of a derivation come to over its tokens.
use Rattle.std.specs.Prelude.{◌≡◌, Option, Some, None, option_and_then, List, [], ◌∷◌}
use Rattle.weld_grammar.specs.declared.terminals.token.Token.{Token}
use Rattle.weld_accept.specs.declared.step.Step.{Step}
use Rattle.weld_accept.specs.declared.step.Step.TheVariants.{Shift, Reduce}
use Rattle.weld_tree.specs.declared.place.Place.{Place}
use Rattle.weld_tree.specs.TypeTree.{TypeTree}
use Rattle.weld_tree.specs.Program.{ProgramTree}
use Rattle.weld_spell.specs.Names.{Refused}
use Rattle.weld_reduce.specs.Values.{expr, ty}
use Rattle.weld_reduce.specs.States.{State, shift, reduce}

-- the state behind the steps; none where a step doesn't fit what is there
abbrev pub run : List Step → List Token → State → Option State
run [] ts st = Some st
run (Shift a ∷ ss) [] st = None
run (Shift a ∷ ss) (t ∷ ts) st = option_and_then (λ next. run ss ts next) (shift a t st)
run (Reduce r ∷ ss) ts st = option_and_then (λ next. run ss ts next) (reduce r st)

-- the steps come to a program and to the first of its names that is refused: its expression is all that lies on the stack
pub record Comes (result : Option State) (program : ProgramTree) (misnamed : Option Refused) : Type 0 where
  pub state : State
  pub is : result ≡ Some state
  pub values : state.values ≡ expr program.body ∷ []
  pub params : state.params ≡ program.params
  pub refused : state.misnamed ≡ misnamed

-- the steps come to a type, and nothing else lies on the stack
pub record ComesToType (result : Option State) (place : Place) (type : TypeTree) : Type 0 where
  pub state : State
  pub is : result ≡ Some state
  pub values : state.values ≡ ty place type ∷ []
