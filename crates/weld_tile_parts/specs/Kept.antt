-- What tiles' parts, pieces and joined builders keep of the evaluation of the loop that they belong to.
use Rattle.std.specs.Prelude.{ℕ, ◌≤◌, Option, Some, None}
use Rattle.std.specs.Coded.{Unit-prop}
use Rattle.weld_builders.specs.Outcome.{done}
use Rattle.weld_meaning.specs.Thing.{Thing, bare_thing}
use Rattle.weld_acts.specs.Ranges.{Evaluation, range_over, IsAction, IsSoFar, HoldsEvaluation}
use Rattle.weld_eval.specs.ThingView.{thing_of}
use Rattle.weld_eval.specs.declared.thing.Owned.{Owned}
use Rattle.weld_tile_parts.specs.EvaluationCode.{outcomes_one}

-- the rows from a number up to, not including, another are rows of the evaluation, which is of a loop that is fit to be evaluated
pub record IsTileOf (ev : Evaluation) (from to : ℕ) : Type 0 where
  pub count : ℕ
  pub holds : HoldsEvaluation ev count
  pub ordered : from ≤ to
  pub within : to ≤ count

pub action_one : (ev : Evaluation) (from to : ℕ) (d : Thing) → IsProp (IsAction ev from to d)
action_one ev from to d = outcomes_one (range_over ev.node ev.names ev.lists from to (bare_thing ev.start)) (done d)

-- the builder, if it is there, has come to the row of that number
abbrev pub HasCome : Option Owned → Evaluation → ℕ → Type 0
HasCome None ev k = Unit {0}
HasCome (Some x) ev k = IsSoFar ev k (thing_of x)

pub has_come_one : (held : Option Owned) (ev : Evaluation) (k : ℕ) → IsProp (HasCome held ev k)
has_come_one None ev k = Unit-prop
has_come_one (Some x) ev k = outcomes_one (range_over ev.node ev.names ev.lists 0 k ev.start) (done (thing_of x))
