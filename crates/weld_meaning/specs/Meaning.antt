-- What a program means on arguments.
use Rattle.std.specs.Prelude.{List, [], ◌∷◌}
use Rattle.weld_data.specs.Value.{Value}
use Rattle.weld_tree.specs.declared.binder.Binder.{Binder}
use Rattle.weld_tree.specs.Program.{ProgramTree}
use Rattle.weld_tree.specs.HasValue.{HasValue}
use Rattle.weld_builders.specs.Outcome.{Outcome, done, fault, stuck}
use Rattle.weld_meaning.specs.Thing.{plain}
use Rattle.weld_meaning.specs.Typing.{noted_type}
use Rattle.weld_meaning.specs.Evaluation.{Env, value_out, eval}

-- the outcome is a result with the property, or a fault; it isn't stuck
abbrev pub GivesOrFaults : {A : Type 0} → (A → Type 0) → Outcome A → Type 0
GivesOrFaults P (done x) = P x
GivesOrFaults P fault = Unit {0}
GivesOrFaults P stuck = ⊥

-- there is an argument of its type for each parameter
abbrev pub ArgumentsFit : List Binder → List Value → Type 0
ArgumentsFit [] [] = Unit {0}
ArgumentsFit [] (v ∷ vs) = ⊥
ArgumentsFit (b ∷ bs) [] = ⊥
ArgumentsFit (b ∷ bs) (v ∷ vs) = HasValue (noted_type b.note) v × ArgumentsFit bs vs

-- each parameter stands for its argument
abbrev pub with_arguments : List Binder → List Value → Env
with_arguments [] vs = []
with_arguments (b ∷ bs) [] = []
with_arguments (b ∷ bs) (v ∷ vs) = (b.sym.0, plain v) ∷ with_arguments bs vs

-- the value of the program on the arguments, or a fault
abbrev pub meaning : ProgramTree → List Value → Outcome Value
meaning p vs = value_out (eval p.body (with_arguments p.params vs))
