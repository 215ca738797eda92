-- The turns of an `iterate`.
use Rattle.std.specs.Prelude.{◌≡◌, ◌∷◌, ℕ, Bool, if◌then◌else◌, Result, Ok, Err}
use Rattle.weld_data.specs.Value.{Value}
use Rattle.weld_data.specs.View.{view_val}
use Rattle.weld_data.specs.declared.stop.Stop.{Stop}
use Rattle.weld_data.specs.declared.stop.Stop.TheVariants.{Fault, Memory}
use Rattle.weld_data.specs.declared.value.Val.{Val}
use Rattle.weld_tree.specs.ExprTree.{ExprTree, iterate}
use Rattle.weld_tree.specs.HasValue.{HasValue}
use Rattle.weld_builders.specs.Outcome.{Outcome, done, fault, stuck, and_then, map_out}
use Rattle.weld_meaning.specs.Thing.{Thing, plain}
use Rattle.weld_meaning.specs.Evaluation.{Env, eval, value_out, next_turn, turns, turn_limit}
use Rattle.weld_eval.specs.Fit.{IsFit}

-- what the body makes of a state
abbrev pub turn_of : ExprTree → Env → Value → Outcome Value
turn_of (iterate a e b f) env v = value_out (eval f ((b.sym.0, plain v) ∷ env))
turn_of _ env v = stuck

-- the turns from a state on, where so many are left
abbrev pub turns_from : ExprTree → Env → ℕ → Value → Outcome Thing
turns_from n env left v = map_out plain (turns left v (λ w. turn_of n env w))

-- the state of an `iterate` that is fit to be evaluated is of its type
pub record HoldsState (n : ExprTree) (env : Env) (v : Value) : Type 0 where
  pub fit : IsFit n env
  pub has : HasValue fit.answer v

-- the next state, and whether to go on with it
abbrev pub TurnAnswers : Result (Val × Bool) Stop → ExprTree → Env → Value → Type 0
TurnAnswers (Ok p) n env v =
    HoldsState n env (view_val p.0) × ((go : Value → Outcome Value) → and_then (turn_of n env v) (λ w. next_turn w go) ≡ (if p.1 then go (view_val p.0) else done (view_val p.0)))
TurnAnswers (Err Fault) n env v = turn_of n env v ≡ fault
TurnAnswers (Err Memory) n env v = Unit {0}

-- the state that the turns start with
abbrev pub StateAnswers : Result Val Stop → ExprTree → Env → Type 0
StateAnswers (Ok v) n env = HoldsState n env (view_val v) × (eval n env ≡ turns_from n env turn_limit (view_val v))
StateAnswers (Err Fault) n env = eval n env ≡ fault
StateAnswers (Err Memory) n env = Unit {0}
