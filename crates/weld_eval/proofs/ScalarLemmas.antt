-- Operators on numbers of one kind.
use Rattle.std.proofs.Common.{◌≡◌, ℤ, Bool, true, if◌then◌else◌, Some, None, option_map, refl, ap, sym, subst, ◌∙◌}
use Rattle.weld_data.specs.declared.kind.Kind.{Kind}
use Rattle.weld_data.specs.declared.kind.Kind.TheVariants as kinds
use Rattle.weld_data.specs.declared.op.BinOp.{BinOp}
use Rattle.weld_data.specs.Kind.{IsInteger, InRange}
use Rattle.weld_data.specs.Operation.{TakesKind, operation, answer_kind}
use Rattle.weld_data.specs.Lookup.{same_kind}
use Rattle.weld_data.specs.Value.{number}
use Rattle.weld_builders.specs.Outcome.{done, fault, stuck, or_fault}
use Rattle.weld_meaning.specs.Evaluation.{operated}
use Rattle.weld_eval.specs.Fits.{AreOperands, IsIntegerNumber}

pub operands_kind : (op : BinOp) (k m : Kind) (x y : ℤ) → AreOperands op (number k x) (number m y) → k ≡ m
operands_kind op k m x y h = h.2.0 ∙ sym h.3.0

pub left_in_range : (op : BinOp) (k m : Kind) (x y : ℤ) → AreOperands op (number k x) (number m y) → InRange k x
left_in_range op k m x y h = subst (λ j. InRange j x) (sym h.2.0) h.2.1

pub right_in_range : (op : BinOp) (k m : Kind) (x y : ℤ) → AreOperands op (number k x) (number m y) → InRange k y
right_in_range op k m x y h = subst (λ j. InRange j y) (sym h.2.0) h.3.1

pub takes_operands : (op : BinOp) (k m : Kind) (x y : ℤ) → AreOperands op (number k x) (number m y) → TakesKind op k
takes_operands op k m x y h = subst (TakesKind op) (sym h.2.0) h.1

same_kind_self : (k : Kind) → same_kind k k ≡ true
same_kind_self kinds.Bool = refl
same_kind_self kinds.I8 = refl
same_kind_self kinds.I16 = refl
same_kind_self kinds.I32 = refl
same_kind_self kinds.I64 = refl
same_kind_self kinds.U8 = refl
same_kind_self kinds.U16 = refl
same_kind_self kinds.U32 = refl
same_kind_self kinds.U64 = refl

operated_is : (op : BinOp) (k m : Kind) (x y : ℤ) → k ≡ m → operated op (number k x) (number m y) ≡ or_fault (option_map (number (answer_kind op k)) (operation op k x y))
operated_is op k m x y e =
    ap (λ j. operated op (number k x) (number j y)) (sym e)
    ∙ ap (λ (b : Bool). if b then or_fault (option_map (number (answer_kind op k)) (operation op k x y)) else stuck) (same_kind_self k)

pub operated_some : (op : BinOp) (k m : Kind) (x y z : ℤ) → AreOperands op (number k x) (number m y) → Some z ≡ operation op k x y → operated op (number k x) (number m y) ≡ done (number (answer_kind op k) z)
operated_some op k m x y z h e =
    operated_is op k m x y (operands_kind op k m x y h) ∙ ap (λ o. or_fault (option_map (number (answer_kind op k)) o)) (sym e)

pub operated_none : (op : BinOp) (k m : Kind) (x y : ℤ) → AreOperands op (number k x) (number m y) → None ≡ operation op k x y → operated op (number k x) (number m y) ≡ fault
operated_none op k m x y h e =
    operated_is op k m x y (operands_kind op k m x y h) ∙ ap (λ o. or_fault (option_map (number (answer_kind op k)) o)) (sym e)

pub integer_kind : (k : Kind) (x : ℤ) → IsIntegerNumber (number k x) → IsInteger k
integer_kind k x h = subst IsInteger (sym h.2.0) h.1
