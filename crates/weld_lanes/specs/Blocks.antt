-- What is worked out on the rows of a block, place by place.
use Rattle.std.specs.Prelude.{◌≡◌, ℕ, ◌+◌, ◌*◌, ◌<◌, Bool, true, false, if◌then◌else◌, ℤ, pos, List, get_or}
use Rattle.weld_data.specs.declared.kind.Kind.{Kind}
use Rattle.weld_data.specs.Operation.{truth}
use Rattle.weld_lanes.specs.declared.steps.LaneStep.{LaneStep}
use Rattle.weld_lanes.specs.declared.steps.LaneStep.TheVariants as steps
use Rattle.weld_lanes.specs.Answers.{at, is_true, answer, answers}

-- so many numbers are what is made of those at their places
pub record AreOne (f : ℤ → ℤ) (xs zs : List ℤ) (count : ℕ) : Type 0 where
  pub each : (j : ℕ) → j < count → at zs j ≡ f (at xs j)

pub record AreTwo (f : ℤ → ℤ → ℤ) (xs ys zs : List ℤ) (count : ℕ) : Type 0 where
  pub each : (j : ℕ) → j < count → at zs j ≡ f (at xs j) (at ys j)

pub record AreThree (ts xs ys zs : List ℤ) (count : ℕ) : Type 0 where
  pub each : (j : ℕ) → j < count → at zs j ≡ (if is_true (at ts j) then at xs j else at ys j)

pub record AreSame (x : ℤ) (zs : List ℤ) (count : ℕ) : Type 0 where
  pub each : (j : ℕ) → j < count → at zs j ≡ x

-- so many are those of a function
pub record ArePart (f : ℕ → ℤ) (zs : List ℤ) (count : ℕ) : Type 0 where
  pub each : (j : ℕ) → j < count → at zs j ≡ f j

-- the step of a place
abbrev pub step_at : List LaneStep → ℕ → LaneStep
step_at ss i = get_or ss i steps.A

-- the step answers the same on every row: a literal's, a truth value's, and that of a number that is the same for all rows
abbrev pub is_constant : LaneStep → Bool
is_constant steps.A = false
is_constant steps.B = false
is_constant (steps.Lit y) = true
is_constant (steps.Uniform u) = true
is_constant (steps.Arith op i j) = false
is_constant (steps.Compare op i j) = false
is_constant (steps.Truth t) = true
is_constant (steps.Not i) = false
is_constant (steps.And i j) = false
is_constant (steps.Or i j) = false
is_constant (steps.Select c i j) = false

-- what it answers; of each other step 0
abbrev pub constant_of : List ℤ → LaneStep → ℤ
constant_of us steps.A = pos 0
constant_of us steps.B = pos 0
constant_of us (steps.Lit y) = y
constant_of us (steps.Uniform u) = at us u
constant_of us (steps.Arith op i j) = pos 0
constant_of us (steps.Compare op i j) = pos 0
constant_of us (steps.Truth t) = truth t
constant_of us (steps.Not i) = pos 0
constant_of us (steps.And i j) = pos 0
constant_of us (steps.Or i j) = pos 0
constant_of us (steps.Select c i j) = pos 0

-- of so many steps the constants stand where the step has its places, in each row's
pub record AreConstants (ss : List LaneStep) (us ks : List ℤ) (done : ℕ) : Type 0 where
  pub each : (i : ℕ) → i < done → (j : ℕ) → j < 512 → at ks (i * 512 + j) ≡ constant_of us (step_at ss i)

-- so many numbers at a place's places are the same one, and those below are as they were
pub record AreSameAt (x : ℤ) (i : ℕ) (old new : List ℤ) : Type 0 where
  pub here : (j : ℕ) → j < 512 → at new (i * 512 + j) ≡ x
  pub below : (j : ℕ) → j < i * 512 → at new j ≡ at old j

-- the answer of a step on a row: of a column's step the column's number, of a constant the constant, of each other what stands in the room
abbrev pub kept_at : List ℤ → LaneStep → ℤ → ℤ → ℤ → ℤ
kept_at us steps.A a b x = a
kept_at us steps.B a b x = b
kept_at us (steps.Lit y) a b x = y
kept_at us (steps.Uniform u) a b x = at us u
kept_at us (steps.Arith op i j) a b x = x
kept_at us (steps.Compare op i j) a b x = x
kept_at us (steps.Truth t) a b x = truth t
kept_at us (steps.Not i) a b x = x
kept_at us (steps.And i j) a b x = x
kept_at us (steps.Or i j) a b x = x
kept_at us (steps.Select c i j) a b x = x

abbrev pub block_at : List LaneStep → List ℤ → List ℤ → List ℤ → List ℤ → ℕ → ℕ → ℤ
block_at ss us cs ds room i j = kept_at us (step_at ss i) (at cs j) (at ds j) (at room (i * 512 + j))

-- the answers of all steps on the row of a place
abbrev pub answers_at : Kind → List LaneStep → List ℤ → List ℤ → List ℤ → ℕ → List ℤ
answers_at k ss us cs ds j = answers k ss us (at cs j) (at ds j)

-- so many of the steps are answered on so many rows
pub record AreAnswered (k : Kind) (ss : List LaneStep) (us cs ds room : List ℤ) (done count : ℕ) : Type 0 where
  pub each : (i : ℕ) → i < done → (j : ℕ) → j < count → block_at ss us cs ds room i j ≡ at (answers_at k ss us cs ds j) i

-- so many numbers are the step's answers on the rows; of a column's step and of a constant nothing is kept
pub record IsAnswered (k : Kind) (ss : List LaneStep) (us cs ds : List ℤ) (s : LaneStep) (zs : List ℤ) (count : ℕ) : Type 0 where
  pub each : (j : ℕ) → j < count → kept_at us s (at cs j) (at ds j) (at zs j) ≡ answer k us (at cs j) (at ds j) (answers_at k ss us cs ds j) s
