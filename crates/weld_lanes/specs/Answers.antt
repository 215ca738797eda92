-- What steps answer on a row, and on all rows.
use Rattle.std.specs.Prelude.{ℕ, ◌-◌, ◌*◌, Bool, not, ◌&&◌, ◌||◌, if◌then◌else◌, ℤ, pos, List, [], ◌∷◌, ◌++◌, length, get_or, Option, Some, None}
use Rattle.std.specs.Ordering.{int_eq}
use Rattle.std.specs.Simd.Lanes.{zip2}
use Rattle.weld_data.specs.declared.kind.Kind.{Kind}
use Rattle.weld_data.specs.declared.op.BinOp.{BinOp}
use Rattle.weld_data.specs.Operation.{operation, truth}
use Rattle.weld_lanes.specs.declared.steps.LaneStep.{LaneStep}
use Rattle.weld_lanes.specs.declared.steps.LaneStep.TheVariants as steps

-- the number at a place, from 0
abbrev pub at : List ℤ → ℕ → ℤ
at xs i = get_or xs i (pos 0)

-- the number stands for true
abbrev pub is_true : ℤ → Bool
is_true x = int_eq x (pos 1)

abbrev pub some_of : Option ℤ → ℤ
some_of (Some x) = x
some_of None = pos 0

-- what the operator makes of two numbers of the kind; of `/` and `%` steps make no use
abbrev pub made : BinOp → Kind → ℤ → ℤ → ℤ
made op k x y = some_of (operation op k x y)

-- the answer of a step on a row whose numbers are a and b, where `us` are the same for all rows, and `xs` are the answers of the earlier steps
abbrev pub answer : Kind → List ℤ → ℤ → ℤ → List ℤ → LaneStep → ℤ
answer k us a b xs steps.A = a
answer k us a b xs steps.B = b
answer k us a b xs (steps.Lit x) = x
answer k us a b xs (steps.Uniform u) = at us u
answer k us a b xs (steps.Arith op i j) = made op k (at xs i) (at xs j)
answer k us a b xs (steps.Compare op i j) = made op k (at xs i) (at xs j)
answer k us a b xs (steps.Truth t) = truth t
answer k us a b xs (steps.Not i) = truth (not (is_true (at xs i)))
answer k us a b xs (steps.And i j) = truth (is_true (at xs i) && is_true (at xs j))
answer k us a b xs (steps.Or i j) = truth (is_true (at xs i) || is_true (at xs j))
answer k us a b xs (steps.Select c i j) = if is_true (at xs c) then at xs i else at xs j

-- the answers of the steps one after another, behind those that are there
abbrev pub answers_after : Kind → List ℤ → ℤ → ℤ → List ℤ → List LaneStep → List ℤ
answers_after k us a b xs [] = xs
answers_after k us a b xs (s ∷ ss) = answers_after k us a b (xs ++ answer k us a b xs s ∷ []) ss

abbrev pub answers : Kind → List LaneStep → List ℤ → ℤ → ℤ → List ℤ
answers k ss us a b = answers_after k us a b [] ss

-- the answer of the last step
abbrev pub row_answer : Kind → List LaneStep → List ℤ → ℤ → ℤ → ℤ
row_answer k ss us a b = at (answers k ss us a b) (length ss - 1)

-- the answers of the rows, one row after another: the elements of two columns in each row
abbrev pub lane_meaning : Kind → List LaneStep → List ℤ → List ℤ → List ℤ → List ℤ
lane_meaning k ss us cs ds = zip2 (λ a b. row_answer k ss us a b) cs ds

-- how many numbers there is room for where so many steps can be answered
abbrev pub room_of : ℕ → ℕ
room_of n = n * 512
