-- The rows of a loop.
use Rattle.std.specs.Prelude.{◌≡◌, ℕ, List, length, drop, Result, Ok, Err}
use Rattle.weld_data.specs.Value.{Value, values}
use Rattle.weld_data.specs.declared.stop.Stop.{Stop}
use Rattle.weld_data.specs.declared.stop.Stop.TheVariants.{Fault, Memory}
use Rattle.weld_tree.specs.ExprTree.{ExprTree, loop}
use Rattle.weld_tree.specs.HasValue.{HasValue, AllAre}
use Rattle.weld_builders.specs.Outcome.{Outcome, done, fault, stuck, and_then}
use Rattle.weld_meaning.specs.Thing.{Thing, after_thing}
use Rattle.weld_meaning.specs.Evaluation.{Env, Row, run, number_from, rows_of, eval_legs, eval}
use Rattle.weld_meaning.specs.ThingType.{HasThing}
use Rattle.weld_eval.specs.Fit.{IsFit}
use Rattle.weld_eval.specs.Takes.{Join, row_of}

-- what the body of a loop makes of a builder on a row
abbrev pub row_step : ExprTree → Env → Row → Thing → Outcome Thing
row_step (loop a ls e b n x f) env r s = row_of b n x f env r s
row_step _ env r s = stuck

-- the builder handed through rows from the one of that number on
abbrev pub rows_from : ExprTree → Env → ℕ → List Value → Thing → Outcome Thing
rows_from n env i rows s = run (number_from i rows) s (λ r t. row_step n env r t)

-- the lists are those of the loop's legs
abbrev pub LegsAre : ExprTree → Env → List (List Value) → Type 0
LegsAre (loop a ls e b n x f) env lists = eval_legs ls env ≡ done lists
LegsAre _ env lists = ⊥

-- the value is of the type of the loop's rows
abbrev pub RowIs : (n : ExprTree) (env : Env) → IsFit n env → Value → Type 0
RowIs (loop a ls e b n x f) env h v = HasValue h.typed.1 v
RowIs _ env h v = ⊥

-- each of them is
abbrev pub RowsAre : (n : ExprTree) (env : Env) → IsFit n env → List Value → Type 0
RowsAre (loop a ls e b n x f) env h vs = AllAre (HasValue h.typed.1) (values vs)
RowsAre _ env h vs = ⊥

-- a loop that is fit to be evaluated has come to a builder of its type, and a row is of the type of its rows
pub record HoldsRow (n : ExprTree) (env : Env) (s : Thing) (v : Value) : Type 0 where
  pub fit : IsFit n env
  pub has : HasThing s fit.answer
  pub row : RowIs n env fit v

-- the same of all its rows, which are those of the lists of its legs' elements
pub record HoldsRows (n : ExprTree) (env : Env) (lists : List (List Value)) (s : Thing) (count : ℕ) : Type 0 where
  pub fit : IsFit n env
  pub has : HasThing s fit.answer
  pub rows : List Value
  pub are : rows_of lists ≡ done rows
  pub count_is : length rows ≡ count
  pub rows_have : RowsAre n env fit rows

-- the builder handed through the rows of the lists
abbrev pub loop_over : ExprTree → Env → List (List Value) → Thing → Outcome Thing
loop_over n env lists s = and_then (rows_of lists) (λ rows. rows_from n env 0 rows s)

-- the builder has come so far: what is left of the rows makes the whole from it
pub record RunsOn (n : ExprTree) (env : Env) (lists : List (List Value)) (count : ℕ) (start : Thing) (i : ℕ) (s : Thing) : Type 0 where
  pub holds : HoldsRows n env lists s count
  pub same : loop_over n env lists start ≡ rows_from n env i (drop i holds.rows) s

-- what a row makes of a builder
abbrev pub RowAnswer : {T : Type 0} → Result T Stop → ExprTree → Env → Row → Thing → Thing → Type 0
RowAnswer (Ok x) n env r s t = row_step n env r s ≡ done t
RowAnswer (Err Fault) n env r s t = row_step n env r s ≡ fault
RowAnswer (Err Memory) n env r s t = Unit {0}

-- what the expression comes to joins a builder
pub record Joins (e : ExprTree) (env : Env) (s : Thing) : Type 0 where
  pub joins : (d : Thing) → eval e env ≡ done d → Join s d

-- what the expression comes to is appended to a builder
abbrev pub BodyAnswer : {T : Type 0} → Result T Stop → ExprTree → Env → Thing → Thing → Type 0
BodyAnswer (Ok x) e env s t = (d : Thing) × (eval e env ≡ done d) × (t ≡ after_thing s d)
BodyAnswer (Err Fault) e env s t = eval e env ≡ fault
BodyAnswer (Err Memory) e env s t = Unit {0}
