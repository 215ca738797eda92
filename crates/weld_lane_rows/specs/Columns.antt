-- Columns of numbers of one kind under the rows of a loop.
use Rattle.std.specs.Prelude.{◌≡◌, ℕ, ◌<◌, ◌≤◌, Bool, ℤ, List, length, map}
use Rattle.weld_data.specs.declared.kind.Kind.{Kind}
use Rattle.weld_data.specs.Value.{Value, number}
use Rattle.weld_eval.specs.RowLists.{row_in}
use Rattle.weld_lanes.specs.Answers.{at}
use Rattle.weld_lane_form.specs.Bodies.{row_value}

-- the rows below a number are of the columns: each is the first one's number, or the struct of both
pub record AreRows (k : Kind) (pair : Bool) (lists : List (List Value)) (cs ds : List ℤ) (to : ℕ) : Type 0 where
  pub each : (i : ℕ) → i < to → row_in lists i ≡ row_value k pair (at cs i) (at ds i)
  pub first : to ≤ length cs
  pub second : to ≤ length ds

-- the values are the numbers that the elements stand for, and there are so many at least
pub record AreCells {T : Type 0} (f : T → ℤ) (k : Kind) (vs : List Value) (cells : List T) (count : ℕ) : Type 0 where
  pub are : vs ≡ map (λ x. number k (f x)) cells
  pub reach : count ≤ length cells
