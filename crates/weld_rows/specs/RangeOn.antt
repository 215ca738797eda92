-- A range of rows that is being run.
use Rattle.std.specs.Prelude.{◌≡◌, ℕ, ◌-◌, ◌≤◌, List, length, take, drop}
use Rattle.weld_data.specs.Value.{Value}
use Rattle.weld_tree.specs.ExprTree.{ExprTree}
use Rattle.weld_builders.specs.Outcome.{done}
use Rattle.weld_meaning.specs.Thing.{Thing}
use Rattle.weld_meaning.specs.ThingType.{HasThing}
use Rattle.weld_meaning.specs.Evaluation.{Env, rows_of}
use Rattle.weld_eval.specs.Fit.{IsFit}
use Rattle.weld_eval_plain.specs.Rows.{rows_from, RowsAre}
use Rattle.weld_acts.specs.Ranges.{range_over}

-- the builder has come so far: what is left of the range makes the whole from it; another builder of the loop's type is at hand
pub record RangeOn (n : ExprTree) (env : Env) (lists : List (List Value)) (from to : ℕ) (start own : Thing) (i : ℕ) (s : Thing) : Type 0 where
  pub fit : IsFit n env
  pub has : HasThing s fit.answer
  pub owns : HasThing own fit.answer
  pub rows : List Value
  pub are : rows_of lists ≡ done rows
  pub rows_have : RowsAre n env fit rows
  pub reached : i ≤ to
  pub within : to ≤ length rows
  pub same : range_over n env lists from to start ≡ rows_from n env i (take (to - i) (drop i rows)) s
