-- What is lowered to instructions on words, and that they come to the same.
use Rattle.std.specs.Prelude.{◌≡◌, ℕ, suc, ◌≤◌, ◌<◌, Bool, if◌then◌else◌, Option, Some, None, ℤ, int_lt, int_le}
use Rattle.std.specs.Ordering.{int_eq}
use Rattle.weld_data.specs.declared.kind.Kind.TheVariants as kinds
use Rattle.weld_data.specs.declared.op.BinOp.{BinOp}
use Rattle.weld_data.specs.declared.op.BinOp.TheVariants as ops
use Rattle.weld_data.specs.Operation.{answer_kind}
use Rattle.weld_data.specs.Value.{Value, number}
use Rattle.weld_built.specs.Pair.{pair}
use Rattle.weld_builders.specs.Outcome.{Outcome, done, fault, stuck, and_then}
use Rattle.weld_meaning.specs.Evaluation.{negated, operated, truth_of, truth_value}
use Rattle.weld_meaning.specs.Thing.{value_field}
use Rattle.weld_turns.specs.CodeView.{Slots, either_of, filled, shape_value, turn_value, value, with_slot}
use Rattle.weld_turns.specs.StepView.{Words, step_value, with_word, word_of_operand, worked}
use Rattle.weld_turns.specs.declared.code.Code.{Code}
use Rattle.weld_turns.specs.declared.code.Filling.{Filling}
use Rattle.weld_turns.specs.declared.code.Shape.{Shape}
use Rattle.weld_turns.specs.declared.code.Turn.{Turn}
use Rattle.weld_turns.specs.declared.step.Operand.{Operand}
use Rattle.weld_turns.specs.declared.step.Operand.TheVariants as operands
use Rattle.weld_turns.specs.declared.step.Step.{Step}
use Rattle.weld_turns.specs.declared.rest.Rest.{Rest, fold-Rest}
use Rattle.weld_turns.specs.declared.rest.Rest.TheOpen.{Rest-F}

-- what is still to be done of a turn comes to that
abbrev pub Meaning : Type 0
Meaning = Shape → Slots → Outcome Value

-- ---- what is still to be done

-- the struct of a state and of whether to go on, of which that is a truth value
abbrev pub settle : Value → Outcome Value
settle v = and_then (value_field 0 v) (λ s. and_then (value_field 1 v) (λ u. and_then (truth_of u) (λ b. done (pair s (truth_value b)))))

-- what a turn comes to, where that is such a struct
abbrev pub settled : Turn → Meaning
settled t shape f = and_then (turn_value t shape f) settle

-- slots filled, and what follows
abbrev pub filled_then : Filling → Meaning → Meaning
filled_then x k shape f = and_then (filled x f) (λ g. k shape g)

-- a number put into a slot, and what follows
abbrev pub put_then : ℕ → Code → Meaning → Meaning
put_then to c k shape f = and_then (value c f) (λ v. k shape (with_slot f to v))

-- by a truth value the one or the other
abbrev pub either_then : Code → Meaning → Meaning → Meaning
either_then c x y shape f = and_then (value c f) (λ v. either_of v (x shape f) (y shape f))

-- the end: the next state stands from that slot on
abbrev pub ended_at : ℕ → Bool → Meaning
ended_at first go shape f = done (pair (shape_value shape first f) (truth_value go))

abbrev pub rest_step : Rest-F Meaning → Meaning
rest_step (Rest-F.Turn t) = settled t.now
rest_step (Rest-F.Fill x k) = filled_then x.now k.now
rest_step (Rest-F.Put to c k) = put_then to c.now k.now
rest_step (Rest-F.Either c x y) = either_then c.now x.now y.now
rest_step (Rest-F.End first go) = ended_at first go

abbrev pub rest_value : Rest → Meaning
rest_value = fold-Rest Meaning rest_step

-- ---- slots and words

-- how many of the words stand for slots
abbrev pub shared : ℕ
shared = 64

-- the first slots are numbers of kind i64 with these words
abbrev pub Agree : Slots → Words → Type 0
Agree f w = (i : ℕ) → suc i ≤ shared → f i ≡ number kinds.I64 (w i)

-- whatever the slots have that the words stand for, the instructions come to that of a state of the shape
abbrev pub Lowers : Shape → Step → Meaning → Type 0
Lowers shape t k = (f : Slots) (w : Words) → Agree f w → k shape f ≡ step_value t shape w

-- what an operator comes to between two
abbrev pub between : BinOp → Code → Code → Slots → Outcome Value
between op x y f = and_then (value x f) (λ v. and_then (value y f) (λ z. operated op v z))

-- ---- numbers

-- the instructions go on as the second ones do, with the number in a place, and the places below that one as they were; or it is the same fault
abbrev pub IsPut : Outcome Value → Step → Step → Words → ℕ → ℕ → Type 0
IsPut (done v) t k w to below = (x : ℤ) × (u : Words) × (v ≡ number kinds.I64 x) × ((shape : Shape) → step_value t shape w ≡ step_value k shape u) × (u to ≡ x) × ((i : ℕ) → suc i ≤ below → (i ≡ to → ⊥) → u i ≡ w i)
IsPut fault t k w to below = (shape : Shape) → step_value t shape w ≡ fault
IsPut stuck t k w to below = ⊥

-- whatever the slots have, the instructions put what the code comes to into a place, and go on as the second ones do
abbrev pub Puts : Step → Step → Code → ℕ → ℕ → Type 0
Puts t k c to below = (f : Slots) (w : Words) → Agree f w → IsPut (value c f) t k w to below

-- the instructions put a word into a place, and go on as the second ones do
abbrev pub IsWordPut : Step → Step → ℤ → ℕ → Type 0
IsWordPut t k x to = (shape : Shape) (w : Words) → step_value t shape w ≡ step_value k shape (with_word w to x)

-- whatever the slots have, the code comes to the word of what is at hand
abbrev pub IsAtHand : Code → Operand → Type 0
IsAtHand c o = (f : Slots) (w : Words) → Agree f w → value c f ≡ done (number kinds.I64 (word_of_operand o w))

-- it is a word, or the word of a place below that one
abbrev pub IsBelow : Operand → ℕ → Type 0
IsBelow (operands.Place i) n = i < n
IsBelow (operands.Word x) n = Unit {0}

-- the same of what was found
abbrev pub MayBeAtHand : Code → Option Operand → Type 0
MayBeAtHand c (Some o) = IsAtHand c o × IsBelow o shared
MayBeAtHand c None = Unit {0}

-- the code is the slot of that place, where one was found
abbrev pub MayHaveSlot : Code → Option ℕ → Type 0
MayHaveSlot c (Some i) = IsAtHand c (operands.Place i) × (i < shared)
MayHaveSlot c None = Unit {0}

-- the place of a slot that was found, or else that one
abbrev pub slot_or : Option ℕ → ℕ → ℕ
slot_or (Some i) to = i
slot_or None to = to

-- what is worked on: what is at hand, or else the word of a place
abbrev pub operand_or : Option Operand → ℕ → Operand
operand_or (Some o) to = o
operand_or None to = operands.Place to

-- the instructions go on as the second ones do, where what is worked on is the number, and the places below that one are as they were
abbrev pub IsBrought : Outcome Value → Operand → Step → Step → Words → ℕ → Type 0
IsBrought (done v) o t k w below = (u : Words) × (v ≡ number kinds.I64 (word_of_operand o u)) × ((shape : Shape) → step_value t shape w ≡ step_value k shape u) × ((i : ℕ) → suc i ≤ below → u i ≡ w i)
IsBrought fault o t k w below = (shape : Shape) → step_value t shape w ≡ fault
IsBrought stuck o t k w below = ⊥

abbrev pub Brings : Step → Step → Code → Operand → ℕ → Type 0
Brings t k c o below = (f : Slots) (w : Words) → Agree f w → IsBrought (value c f) o t k w below

-- the instructions put an operator's answer on the word of a place and what it works on into a place, and go on as the second ones do
pub record Works (t k : Step) (op : BinOp) (to left : ℕ) (right : Operand) : Type 0 where
  pub kind : answer_kind op kinds.I64 ≡ kinds.I64
  pub works : (shape : Shape) (w : Words) → step_value t shape w ≡ and_then (worked op to w (w left) (word_of_operand right w)) (λ u. step_value k shape u)

-- the operator compares
abbrev pub Compares : BinOp → Type 0
Compares ops.Eq = Unit {0}
Compares ops.Ne = Unit {0}
Compares ops.Lt = Unit {0}
Compares ops.Le = Unit {0}
Compares ops.Gt = Unit {0}
Compares ops.Ge = Unit {0}
Compares _ = ⊥

-- the one or the other, as a comparison of two words tells
abbrev pub picked_by : {A : Type 0} → BinOp → ℤ → ℤ → A → A → A
picked_by ops.Eq x y a b = if int_eq x y then a else b
picked_by ops.Ne x y a b = if int_eq x y then b else a
picked_by ops.Lt x y a b = if int_lt x y then a else b
picked_by ops.Le x y a b = if int_le x y then a else b
picked_by ops.Gt x y a b = if int_lt y x then a else b
picked_by ops.Ge x y a b = if int_le y x then a else b
picked_by _ x y a b = b

-- the instructions are the one or the other, as an operator on the word of a place and what it works on tells
pub record Forks (t x y : Step) (op : BinOp) (left : ℕ) (right : Operand) : Type 0 where
  pub compares : Compares op
  pub forks : (shape : Shape) (w : Words) → step_value t shape w ≡ picked_by op (w left) (word_of_operand right w) (step_value x shape w) (step_value y shape w)

-- the instructions put the operator's answer into a place, and go on as the second ones do
abbrev pub IsWorkPut : Step → Step → BinOp → Code → Code → ℕ → ℕ → Type 0
IsWorkPut t k op x y to below = (f : Slots) (w : Words) → Agree f w → IsPut (between op x y f) t k w to below

-- the instructions put the wrapped opposite into a place, and go on as the second ones do
abbrev pub IsOppositePut : Step → Step → Code → ℕ → ℕ → Type 0
IsOppositePut t k x to below = (f : Slots) (w : Words) → Agree f w → IsPut (and_then (value x f) negated) t k w to below

-- whatever the two come to, the instructions come to the one or the other, as the code says
abbrev pub IsFork : Step → Step → Step → Code → Type 0
IsFork t x y c = (s : Shape) (m n : Meaning) → Lowers s x m → Lowers s y n → Lowers s t (either_then c m n)

-- the same as the operator says
abbrev pub IsForkOf : Step → Step → Step → BinOp → Code → Code → Type 0
IsForkOf t x y op a b = (s : Shape) (m n : Meaning) → Lowers s x m → Lowers s y n → Lowers s t (λ shape f. and_then (between op a b f) (λ v. either_of v (m shape f) (n shape f)))
