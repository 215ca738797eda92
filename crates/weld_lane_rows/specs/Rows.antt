-- What the rows of a loop of plain arithmetic merge.
use Rattle.std.specs.Prelude.{◌≡◌, ℕ, ◌<◌, ◌+◌, ℤ, List, map}
use Rattle.weld_data.specs.declared.kind.Kind.{Kind}
use Rattle.weld_data.specs.Value.{Value, number}
use Rattle.weld_tree.specs.ExprTree.{ExprTree}
use Rattle.weld_builders.specs.Outcome.{Outcome, done, stuck, map_out}
use Rattle.weld_builders.specs.Part.{Part}
use Rattle.weld_built.specs.Merges.{merge_all, TakesNumbers}
use Rattle.weld_meaning.specs.Thing.{Thing, plain, building, several}
use Rattle.weld_meaning.specs.ThingType.{HasThing}
use Rattle.weld_meaning.specs.Evaluation.{Env, merged}
use Rattle.weld_eval.specs.Fit.{IsFit}
use Rattle.weld_eval.specs.RowLists.{row_in}
use Rattle.weld_eval_plain.specs.Rows.{row_step, RowIs}
use Rattle.weld_lanes.specs.Answers.{at, row_answer}
use Rattle.weld_lanes.specs.declared.steps.LaneProgram.{LaneProgram}
use Rattle.weld_lane_form.specs.Bodies.{TakesNumber}

-- what the steps answer on a row, where elements of any sort stand for numbers
abbrev pub answer_at : {T : Type 0} → (T → ℤ) → Kind → LaneProgram → List T → List T → List T → ℕ → ℤ
answer_at f k p us cs ds i = row_answer k p.steps.items (map f us) (at (map f cs) i) (at (map f ds) i)

-- on each row below a number the body merges into its builder the number that the function gives, which is one of its items
pub record MergesRows (n : ExprTree) (env : Env) (lists : List (List Value)) (k : Kind) (f : ℕ → ℤ) (to : ℕ) : Type 0 where
  pub merges : (i : ℕ) (s : Thing) → i < to → row_step n env (i, row_in lists i) s ≡ merged s (done (plain (number k (f i))))
  pub fits : (i : ℕ) (s : Thing) (h : IsFit n env) → i < to → HasThing s h.answer → RowIs n env h (row_in lists i) → TakesNumber k (f i) h.answer

-- so many numbers are those that the function gives from a place on
pub record AreFrom (f : ℕ → ℤ) (from count : ℕ) (xs : List ℤ) : Type 0 where
  pub each : (j : ℕ) → j < count → at xs j ≡ f (from + j)

-- a builder that takes numbers of the kind
pub record IsTaker (s : Thing) (k : Kind) : Type 0 where
  pub part : Part
  pub is_part : s ≡ building part
  pub takes_numbers : TakesNumbers part k

-- what a builder comes to that values are merged into, one after another
abbrev pub merge_them : Thing → List Value → Outcome Thing
merge_them (plain v) vs = stuck
merge_them (building p) vs = map_out building (merge_all p vs)
merge_them (several ts) vs = stuck
