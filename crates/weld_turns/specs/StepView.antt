-- What instructions come to where places have these words.
use Rattle.std.specs.Prelude.{◌≡◌, ℕ, suc, ◌+◌, ◌==◌, Bool, if◌then◌else◌, List, Option, Some, None, ℤ, pos, int_lt, int_le, slice_get, Result, Ok, Err}
use Rattle.std.specs.Ordering.{int_eq}
use Rattle.weld_data.specs.declared.kind.Kind.TheVariants as kinds
use Rattle.weld_data.specs.declared.op.BinOp.{BinOp}
use Rattle.weld_data.specs.declared.op.BinOp.TheVariants as ops
use Rattle.weld_data.specs.Operation.{operation}
use Rattle.weld_data.specs.Value.{Value, number}
use Rattle.weld_built.specs.Pair.{pair}
use Rattle.weld_builders.specs.Outcome.{Outcome, done, fault, and_then, map_out, or_fault}
use Rattle.weld_meaning.specs.Evaluation.{truth_value}
use Rattle.weld_turns.specs.CodeView.{Slots, shape_value}
use Rattle.weld_turns.specs.declared.code.Shape.{Shape}
use Rattle.weld_turns.specs.declared.code.Halt.{Halt}
use Rattle.weld_turns.specs.declared.code.Halt.TheVariants.{Fault, Other}
use Rattle.weld_turns.specs.declared.step.Step.{Step}
use Rattle.weld_turns.specs.declared.step.Step as steps
use Rattle.weld_turns.specs.declared.step.Operand.{Operand}
use Rattle.weld_turns.specs.declared.step.Operand.TheVariants as operands

-- the words of places by their numbers
abbrev pub Words : Type 0
Words = ℕ → ℤ

-- past the places that are there nothing is asked for
abbrev pub word_there : Option ℤ → ℤ
word_there (Some x) = x
word_there None = pos 0

abbrev pub words_of : List ℤ → Words
words_of xs = λ i. word_there (slice_get xs i)

-- the words with another one in a place
abbrev pub with_word : Words → ℕ → ℤ → Words
with_word w to x = λ i. if i == to then x else w i

-- the slots that have the words as numbers of kind i64
abbrev pub shown : Words → Slots
shown w = λ i. number kinds.I64 (w i)

abbrev pub word_of_operand : Operand → Words → ℤ
word_of_operand (operands.Place i) w = w i
word_of_operand (operands.Word x) w = x

-- the words once an operator's answer on two words is put into a place
abbrev pub worked : BinOp → ℕ → Words → ℤ → ℤ → Outcome Words
worked op to w x y = map_out (with_word w to) (or_fault (operation op kinds.I64 x y))

-- what a turn comes to: the struct of the next state and of whether to go on
abbrev pub step_value : Step → Shape → Words → Outcome Value
step_value (steps.Put' to x a rest) shape w = step_value rest shape (with_word w to x)
step_value (steps.Copy' to i a rest) shape w = step_value rest shape (with_word w to (w i))
step_value (steps.Sum' to i j a rest) shape w = and_then (worked ops.Add to w (w i) (w j)) (λ v. step_value rest shape v)
step_value (steps.SumWith' to i y a rest) shape w = and_then (worked ops.Add to w (w i) y) (λ v. step_value rest shape v)
step_value (steps.Difference' to i j a rest) shape w = and_then (worked ops.Sub to w (w i) (w j)) (λ v. step_value rest shape v)
step_value (steps.DifferenceWith' to i y a rest) shape w = and_then (worked ops.Sub to w (w i) y) (λ v. step_value rest shape v)
step_value (steps.Product' to i j a rest) shape w = and_then (worked ops.Mul to w (w i) (w j)) (λ v. step_value rest shape v)
step_value (steps.ProductWith' to i y a rest) shape w = and_then (worked ops.Mul to w (w i) y) (λ v. step_value rest shape v)
step_value (steps.Quotient' to i j a rest) shape w = and_then (worked ops.Div to w (w i) (w j)) (λ v. step_value rest shape v)
step_value (steps.QuotientWith' to i y a rest) shape w = and_then (worked ops.Div to w (w i) y) (λ v. step_value rest shape v)
step_value (steps.Remainder' to i j a rest) shape w = and_then (worked ops.Rem to w (w i) (w j)) (λ v. step_value rest shape v)
step_value (steps.RemainderWith' to i y a rest) shape w = and_then (worked ops.Rem to w (w i) y) (λ v. step_value rest shape v)
step_value (steps.IfEqual' i j a x b y) shape w = if int_eq (w i) (w j) then step_value x shape w else step_value y shape w
step_value (steps.IfEqualWith' i z a x b y) shape w = if int_eq (w i) z then step_value x shape w else step_value y shape w
step_value (steps.IfLess' i j a x b y) shape w = if int_lt (w i) (w j) then step_value x shape w else step_value y shape w
step_value (steps.IfLessWith' i z a x b y) shape w = if int_lt (w i) z then step_value x shape w else step_value y shape w
step_value (steps.IfAtMost' i j a x b y) shape w = if int_le (w i) (w j) then step_value x shape w else step_value y shape w
step_value (steps.IfAtMostWith' i z a x b y) shape w = if int_le (w i) z then step_value x shape w else step_value y shape w
step_value (steps.IfMoreWith' i z a x b y) shape w = if int_lt z (w i) then step_value x shape w else step_value y shape w
step_value (steps.IfAtLeastWith' i z a x b y) shape w = if int_le z (w i) then step_value x shape w else step_value y shape w
step_value (steps.End first go) shape w = done (pair (shape_value shape first (shown w)) (truth_value go))

-- how many instructions there are
abbrev pub step_nodes : Step → ℕ
step_nodes (steps.Put' to x a rest) = suc (step_nodes rest)
step_nodes (steps.Copy' to i a rest) = suc (step_nodes rest)
step_nodes (steps.Sum' to i j a rest) = suc (step_nodes rest)
step_nodes (steps.SumWith' to i y a rest) = suc (step_nodes rest)
step_nodes (steps.Difference' to i j a rest) = suc (step_nodes rest)
step_nodes (steps.DifferenceWith' to i y a rest) = suc (step_nodes rest)
step_nodes (steps.Product' to i j a rest) = suc (step_nodes rest)
step_nodes (steps.ProductWith' to i y a rest) = suc (step_nodes rest)
step_nodes (steps.Quotient' to i j a rest) = suc (step_nodes rest)
step_nodes (steps.QuotientWith' to i y a rest) = suc (step_nodes rest)
step_nodes (steps.Remainder' to i j a rest) = suc (step_nodes rest)
step_nodes (steps.RemainderWith' to i y a rest) = suc (step_nodes rest)
step_nodes (steps.IfEqual' i j a x b y) = suc (step_nodes x + step_nodes y)
step_nodes (steps.IfEqualWith' i z a x b y) = suc (step_nodes x + step_nodes y)
step_nodes (steps.IfLess' i j a x b y) = suc (step_nodes x + step_nodes y)
step_nodes (steps.IfLessWith' i z a x b y) = suc (step_nodes x + step_nodes y)
step_nodes (steps.IfAtMost' i j a x b y) = suc (step_nodes x + step_nodes y)
step_nodes (steps.IfAtMostWith' i z a x b y) = suc (step_nodes x + step_nodes y)
step_nodes (steps.IfMoreWith' i z a x b y) = suc (step_nodes x + step_nodes y)
step_nodes (steps.IfAtLeastWith' i z a x b y) = suc (step_nodes x + step_nodes y)
step_nodes (steps.End first go) = 1

-- ---- what is answered of them

-- Ok says that the words are what it comes to; a fault, that it is one; else nothing is said
abbrev pub AreWords : Result (Unit {0}) Halt → Words → Outcome Words → Type 0
AreWords (Ok u) w o = o ≡ done w
AreWords (Err Fault) w o = o ≡ fault
AreWords (Err Other) w o = Unit {0}

-- Ok says which truth value it is; a fault is not answered
abbrev pub IsTold : Result Bool Halt → Bool → Type 0
IsTold (Ok b) c = c ≡ b
IsTold (Err Fault) c = ⊥
IsTold (Err Other) c = Unit {0}
