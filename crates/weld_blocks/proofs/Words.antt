-- Numbers in words.
use Rattle.std.proofs.Common.{◌≡◌, ℤ, pos, Some, None, sym, ap, subst, ◌∙◌}
use Rattle.std.specs.Ordering.{int_eq}
use Rattle.weld_data.specs.declared.kind.Kind.{Kind}
use Rattle.weld_data.specs.declared.op.BinOp.{BinOp}
use Rattle.weld_data.specs.Kind.{InRange}
use Rattle.weld_data.specs.Operation.{TakesKind, operation, answer_kind}
use Rattle.weld_data.specs.Value.{number}
use Rattle.weld_builders.specs.Outcome.{done, fault}
use Rattle.weld_meaning.specs.Evaluation.{operated, truth_of}
use Rattle.weld_eval.specs.Fits.{AreOperands, IsTruth}
use Rattle.weld_eval.proofs.ScalarLemmas.{left_in_range, right_in_range, takes_operands, operated_some, operated_none, operands_kind}
use Rattle.weld_eval.specs.Word.{of_word}

pub left_word : (op : BinOp) (k m : Kind) (x y : ℤ) → AreOperands op (number k (of_word k x)) (number m (of_word m y)) → InRange k (of_word k x)
left_word op k m x y h = left_in_range op k m (of_word k x) (of_word m y) h

-- the second number is of the kind of the first
second_word : (op : BinOp) (k m : Kind) (x y : ℤ) → AreOperands op (number k (of_word k x)) (number m (of_word m y)) → of_word m y ≡ of_word k y
second_word op k m x y h = ap (λ (j : Kind). of_word j y) (sym (operands_kind op k m (of_word k x) (of_word m y) h))

pub right_word : (op : BinOp) (k m : Kind) (x y : ℤ) → AreOperands op (number k (of_word k x)) (number m (of_word m y)) → InRange k (of_word k y)
right_word op k m x y h = subst (InRange k) (second_word op k m x y h) (right_in_range op k m (of_word k x) (of_word m y) h)

pub takes_words : (op : BinOp) (k m : Kind) (x y : ℤ) → AreOperands op (number k (of_word k x)) (number m (of_word m y)) → TakesKind op k
takes_words op k m x y h = takes_operands op k m (of_word k x) (of_word m y) h

pub words_some : (op : BinOp) (k m : Kind) (x y z : ℤ) → AreOperands op (number k (of_word k x)) (number m (of_word m y)) → Some z ≡ operation op k (of_word k x) (of_word k y)
    → operated op (number k (of_word k x)) (number m (of_word m y)) ≡ done (number (answer_kind op k) z)
words_some op k m x y z h e =
    operated_some op k m (of_word k x) (of_word m y) z h (e ∙ ap (operation op k (of_word k x)) (sym (second_word op k m x y h)))

pub words_none : (op : BinOp) (k m : Kind) (x y : ℤ) → AreOperands op (number k (of_word k x)) (number m (of_word m y)) → None ≡ operation op k (of_word k x) (of_word k y)
    → operated op (number k (of_word k x)) (number m (of_word m y)) ≡ fault
words_none op k m x y h e =
    operated_none op k m (of_word k x) (of_word m y) h (e ∙ ap (operation op k (of_word k x)) (sym (second_word op k m x y h)))

-- a truth value is true where its word is 1
pub truth_is : (k : Kind) (x : ℤ) → IsTruth (number k (of_word k x)) → truth_of (number k (of_word k x)) ≡ done (int_eq x (pos 1))
truth_is k x h = ap (λ (j : Kind). truth_of (number j (of_word j x))) h.0
