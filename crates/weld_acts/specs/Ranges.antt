-- A range of the rows of a loop.
use Rattle.std.specs.Prelude.{◌≡◌, ℕ, ◌-◌, ◌≤◌, List, length, take, drop, Result, Ok, Err}
use Rattle.weld_data.specs.Value.{Value}
use Rattle.weld_data.specs.declared.stop.Stop.{Stop}
use Rattle.weld_data.specs.declared.stop.Stop.TheVariants.{Fault, Memory}
use Rattle.weld_tree.specs.ExprTree.{ExprTree}
use Rattle.weld_builders.specs.Outcome.{Outcome, done, fault, and_then}
use Rattle.weld_meaning.specs.Thing.{Thing, bare_thing}
use Rattle.weld_meaning.specs.ThingType.{HasThing}
use Rattle.weld_meaning.specs.Evaluation.{Env, rows_of}
use Rattle.weld_eval.specs.Fit.{IsFit}
use Rattle.weld_eval_plain.specs.Rows.{rows_from, RowsAre}

-- one evaluation of a loop: its node, the things of the names outside, the lists of its legs' elements, its starting builder
pub record Evaluation : Type 0 where
  pub node : ExprTree
  pub names : Env
  pub lists : List (List Value)
  pub start : Thing

-- the builder s handed through the rows from a number up to, not including, another
abbrev pub range_over : ExprTree → Env → List (List Value) → ℕ → ℕ → Thing → Outcome Thing
range_over n env lists from to s = and_then (rows_of lists) (λ rows. rows_from n env from (take (to - from) (drop from rows)) s)

-- what lets a range be run from a builder s of the loop's type
pub record HoldsRange (n : ExprTree) (env : Env) (lists : List (List Value)) (from to : ℕ) (s : Thing) : Type 0 where
  pub fit : IsFit n env
  pub has : HasThing s fit.answer
  pub rows : List Value
  pub are : rows_of lists ≡ done rows
  pub rows_have : RowsAre n env fit rows
  pub ordered : from ≤ to
  pub within : to ≤ length rows

-- what running a range answers, the builder being changed in place
abbrev pub RangeAnswer : {T : Type 0} → Result T Stop → Evaluation → ℕ → ℕ → Thing → Thing → Type 0
RangeAnswer (Ok x) ev from to old new = range_over ev.node ev.names ev.lists from to old ≡ done new
RangeAnswer (Err Fault) ev from to old new = range_over ev.node ev.names ev.lists from to old ≡ fault
RangeAnswer (Err Memory) ev from to old new = Unit {0}

-- the thing is the action of the rows in the evaluation: what they make of the builder that has nothing merged
abbrev pub IsAction : Evaluation → ℕ → ℕ → Thing → Type 0
IsAction ev from to d = range_over ev.node ev.names ev.lists from to (bare_thing ev.start) ≡ done d

-- the builder has come so far: it is what the rows below a number make of the start
abbrev pub IsSoFar : Evaluation → ℕ → Thing → Type 0
IsSoFar ev k j = range_over ev.node ev.names ev.lists 0 k ev.start ≡ done j

-- the evaluation is of a loop that is fit to be evaluated, from a builder of its type, and it has so many rows of its type
abbrev pub HoldsEvaluation : Evaluation → ℕ → Type 0
HoldsEvaluation ev count = HoldsRange ev.node ev.names ev.lists 0 count ev.start
