-- Operators on words.
use Rattle.std.proofs.Common.{◌≡◌, ℤ, pos, true, not, if◌then◌else◌, Option, Some, None, option_map, refl, sym, ap, subst, ◌∙◌}
use Rattle.std.specs.Ordering.{int_eq}
use Rattle.weld_data.specs.declared.kind.Kind.{Kind}
use Rattle.weld_data.specs.declared.kind.Kind.TheVariants as kinds
use Rattle.weld_data.specs.declared.op.BinOp.{BinOp}
use Rattle.weld_data.specs.Kind.{InRange}
use Rattle.weld_data.specs.Lookup.{same_kind}
use Rattle.weld_data.specs.Operation.{operation, answer_kind, truth}
use Rattle.weld_data.specs.Value.{Value, number}
use Rattle.weld_data.specs.Wrapped.{wrapped}
use Rattle.weld_builders.specs.Outcome.{done, fault, stuck, map_out, or_fault}
use Rattle.weld_meaning.specs.Evaluation.{operated, negated, contrary, cast_to, truth_of, truth_value}
use Rattle.weld_eval.specs.Word.{of_word}
use Rattle.std.specs.Prelude.{neg_ℤ, Bool}

same_self : (k : Kind) → same_kind k k ≡ true
same_self kinds.Bool = refl
same_self kinds.I8 = refl
same_self kinds.I16 = refl
same_self kinds.I32 = refl
same_self kinds.I64 = refl
same_self kinds.U8 = refl
same_self kinds.U16 = refl
same_self kinds.U32 = refl
same_self kinds.U64 = refl

operated_same : (op : BinOp) (k m : Kind) (x y : ℤ) → k ≡ m → operated op (number k (of_word k x)) (number m (of_word m y)) ≡ or_fault (option_map (number (answer_kind op k)) (operation op k (of_word k x) (of_word k y)))
operated_same op k m x y e =
    ap (λ (j : Kind). operated op (number k (of_word k x)) (number j (of_word j y))) (sym e)
    ∙ ap (λ (t : Bool). if t then or_fault (option_map (number (answer_kind op k)) (operation op k (of_word k x) (of_word k y))) else stuck) (same_self k)

pub word_in_range : (k m : Kind) (y : ℤ) → k ≡ m → InRange m (of_word m y) → InRange k (of_word k y)
word_in_range k m y e h = subst (λ j. InRange j (of_word j y)) (sym e) h

pub work_some : (op : BinOp) (k m : Kind) (x y z : ℤ) → k ≡ m → Some z ≡ operation op k (of_word k x) (of_word k y) → operated op (number k (of_word k x)) (number m (of_word m y)) ≡ done (number (answer_kind op k) z)
work_some op k m x y z e h = operated_same op k m x y e ∙ ap (λ (o : Option ℤ). or_fault (option_map (number (answer_kind op k)) o)) (sym h)

pub work_none : (op : BinOp) (k m : Kind) (x y : ℤ) → k ≡ m → None ≡ operation op k (of_word k x) (of_word k y) → operated op (number k (of_word k x)) (number m (of_word m y)) ≡ fault
work_none op k m x y e h = operated_same op k m x y e ∙ ap (λ (o : Option ℤ). or_fault (option_map (number (answer_kind op k)) o)) (sym h)

pub opposite_is : (k : Kind) (x y : ℤ) → of_word k y ≡ wrapped k (neg_ℤ (of_word k x)) → negated (number k (of_word k x)) ≡ done (number k (of_word k y))
opposite_is k x y h = ap (λ (z : ℤ). done (number k z)) (sym h)

pub truth_is : (k : Kind) (x : ℤ) → k ≡ kinds.Bool → truth_of (number k (of_word k x)) ≡ done (int_eq x (pos 1))
truth_is k x h = ap (λ (j : Kind). truth_of (number j (of_word j x))) h

pub contrary_is : (v : Value) (b : Bool) (x : ℤ) → truth_of v ≡ done b → x ≡ truth (not b) → contrary v ≡ done (number kinds.Bool x)
contrary_is v b x h e = ap (map_out (λ (c : Bool). truth_value (not c))) h ∙ ap (λ (y : ℤ). done (number kinds.Bool y)) (sym e)

pub cast_is : (k m : Kind) (x y : ℤ) → of_word k y ≡ wrapped k (of_word m x) → cast_to k (number m (of_word m x)) ≡ done (number k (of_word k y))
cast_is k m x y h = ap (λ (z : ℤ). done (number k z)) (sym h)
