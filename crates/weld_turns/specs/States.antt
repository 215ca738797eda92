-- The turns of a body.
use Rattle.std.specs.Prelude.{◌≡◌, ℕ, ◌∷◌, Result}
use Rattle.weld_data.specs.Value.{Value}
use Rattle.weld_tree.specs.ExprTree.{ExprTree}
use Rattle.weld_builders.specs.Outcome.{Outcome, done, and_then, map_out}
use Rattle.weld_meaning.specs.Evaluation.{Env, eval, turns, turn_limit, value_out}
use Rattle.weld_meaning.specs.Thing.{Thing, plain}
use Rattle.weld_data.specs.declared.stop.Stop.{Stop}
use Rattle.weld_eval.specs.Answers.{Answers}
use Rattle.weld_eval.specs.ThingView.{held_of}
use Rattle.weld_eval.specs.declared.thing.Held.{Held}
use Rattle.weld_turns.specs.CodeView.{Slots, shape_value, turn_value}
use Rattle.weld_turns.specs.Lowering.{settle}
use Rattle.weld_turns.specs.StepView.{Words, shown, step_value}
use Rattle.weld_turns.specs.declared.code.Shape.{Shape}
use Rattle.weld_turns.specs.declared.code.Turn.{Turn}
use Rattle.weld_turns.specs.declared.step.Step.{Step}

-- what the body makes of a state
abbrev pub next_of : ℕ → ExprTree → Env → Value → Outcome Value
next_of s e env v = value_out (eval e ((s, plain v) ∷ env))

-- what its turns come to from a state on, where so many are left
abbrev pub comes_from : ℕ → ExprTree → Env → ℕ → Value → Outcome Thing
comes_from s e env left v = map_out plain (turns left v (λ w. next_of s e env w))

-- whatever the slots have, the turn makes of the state in the first ones what the body makes of it
abbrev pub Follows : Turn → Shape → ℕ → ExprTree → Env → Type 0
Follows t shape s e env = (f : Slots) → next_of s e env (shape_value shape 0 f) ≡ turn_value t shape f

-- what makes of each state what the turn makes of it
abbrev pub IsFollowed : Turn → Shape → (Value → Outcome Value) → Type 0
IsFollowed t shape g = (f : Slots) → g (shape_value shape 0 f) ≡ turn_value t shape f

-- the turns of all that makes of each state what the turn makes of it come to that, where so many are left
abbrev pub RunsOn : Result Held Stop → Turn → Shape → Slots → ℕ → Type 0
RunsOn r t shape f left = (g : Value → Outcome Value) → IsFollowed t shape g → Answers held_of r (map_out plain (turns left (shape_value shape 0 f) g))

-- the same of all turns
abbrev pub RunsTo : Result Held Stop → Turn → Shape → Slots → Type 0
RunsTo r t shape f = RunsOn r t shape f turn_limit

-- what makes of each state what the instructions make of it
abbrev pub IsFollowedBy : Step → Shape → (Value → Outcome Value) → Type 0
IsFollowedBy t shape g = (w : Words) → and_then (g (shape_value shape 0 (shown w))) settle ≡ step_value t shape w

-- the turns of all that makes of each state what the instructions make of it come to that, where so many are left
abbrev pub StepsRunOn : Result Held Stop → Step → Shape → Words → ℕ → Type 0
StepsRunOn r t shape w left = (g : Value → Outcome Value) → IsFollowedBy t shape g → Answers held_of r (map_out plain (turns left (shape_value shape 0 (shown w)) g))

-- it is the state that stands in the first slots
abbrev pub IsState : Result Held Stop → Shape → Slots → Type 0
IsState r shape f = Answers held_of r (done (plain (shape_value shape 0 f)))
