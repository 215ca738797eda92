-- Laws of `operation` and `combination`.
use Rattle.std.proofs.Common.{◌≡◌, ◌≢◌, Bool, true, false, ℤ, pos, ◌+ℤ◌, ◌*ℤ◌, int_div, int_rem, int_eq, cond, FitsSigned, w64, Some, None, ap, sym, refl, ◌∙◌, arith}
use Rattle.std.specs.Int.{int_wrap, int_wrapping_add, int_wrapping_sub, int_wrapping_mul, int_wrapping_div}
use Rattle.std.proofs.Math.IntN.{+ℤ_assoc, +ℤ_comm, *ℤ_comm}
use Rattle.std.proofs.lemmas.Int.{ints, clamps, wrapping_add_is, wrapping_sub_is, wrapping_mul_is}
use Rattle.std.specs.Cmp.{signed_Decides}
use Rattle.weld_data.specs.declared.kind.Kind.{Kind}
use Rattle.weld_data.specs.declared.kind.Kind.TheVariants as kinds
use Rattle.weld_data.specs.declared.op.BinOp.TheVariants as binary
use Rattle.weld_data.specs.declared.op.MergeOp.{MergeOp}
use Rattle.weld_data.specs.declared.op.MergeOp.TheVariants as merge
use Rattle.weld_data.specs.Kind.{InRange}
use Rattle.weld_data.specs.Wrapped.{wrapped}
use Rattle.weld_data.specs.Operation.{operation, combination, start_of}
use Rattle.weld_data.proofs.Integers.{*ℤ_assoc}
use Rattle.weld_data.proofs.Wrapping.{IsWrapped-wrapped, wrapped-in_range, wrapped-add_left, wrapped-mul_left, wrapping_div_is}

-- ---- combinations

pub combination-start_left : (op : MergeOp) (kind : Kind) (x : ℤ) → InRange kind x → combination op kind (start_of op kind) x ≡ x
combination-start_left merge.Add kind x r =
    let e : pos 0 +ℤ x ≡ x = omega (arith, ints) in ap (wrapped kind) e ∙ wrapped-in_range kind x r
combination-start_left merge.Mul kind x r =
    let e : pos 1 *ℤ x ≡ x = omega (arith, ints) in ap (wrapped kind) e ∙ wrapped-in_range kind x r
combination-start_left merge.Min kind x r = omega (arith, ints, clamps, r.low, r.high)
combination-start_left merge.Max kind x r = omega (arith, ints, clamps, r.low, r.high)

pub combination_comm : (op : MergeOp) (kind : Kind) (x y : ℤ) → combination op kind x y ≡ combination op kind y x
combination_comm merge.Add kind x y = ap (wrapped kind) (+ℤ_comm x y)
combination_comm merge.Mul kind x y = ap (wrapped kind) (*ℤ_comm x y)
combination_comm merge.Min kind x y = omega (arith, ints, clamps)
combination_comm merge.Max kind x y = omega (arith, ints, clamps)

pub combination-start_right : (op : MergeOp) (kind : Kind) (x : ℤ) → InRange kind x → combination op kind x (start_of op kind) ≡ x
combination-start_right op kind x r = combination_comm op kind x (start_of op kind) ∙ combination-start_left op kind x r

pub combination_assoc : (op : MergeOp) (kind : Kind) (x y z : ℤ) → combination op kind (combination op kind x y) z ≡ combination op kind x (combination op kind y z)
combination_assoc merge.Add kind x y z =
    wrapped-add_left kind (x +ℤ y) z ∙ ap (wrapped kind) (+ℤ_assoc x y z ∙ +ℤ_comm x (y +ℤ z))
    ∙ sym (ap (wrapped kind) (+ℤ_comm x _) ∙ wrapped-add_left kind (y +ℤ z) x)
combination_assoc merge.Mul kind x y z =
    wrapped-mul_left kind (x *ℤ y) z ∙ ap (wrapped kind) (*ℤ_assoc x y z ∙ *ℤ_comm x (y *ℤ z))
    ∙ sym (ap (wrapped kind) (*ℤ_comm x _) ∙ wrapped-mul_left kind (y *ℤ z) x)
combination_assoc merge.Min kind x y z = omega (arith, ints, clamps)
combination_assoc merge.Max kind x y z = omega (arith, ints, clamps)

pub InRange-combination : (op : MergeOp) (kind : Kind) (x y : ℤ) → InRange kind x → InRange kind y → InRange kind (combination op kind x y)
InRange-combination merge.Add kind x y r s = (IsWrapped-wrapped kind (x +ℤ y)).in_range
InRange-combination merge.Mul kind x y r s = (IsWrapped-wrapped kind (x *ℤ y)).in_range
InRange-combination merge.Min kind x y r s = record {
  low = omega (arith, ints, clamps, r.low, s.low);
  high = omega (arith, ints, clamps, r.high, s.high);
}
InRange-combination merge.Max kind x y r s = record {
  low = omega (arith, ints, clamps, r.low, s.low);
  high = omega (arith, ints, clamps, r.high, s.high);
}

-- ---- operations on numbers of 64 bits, by std's words

unless_zero : (b : Bool) (y v : ℤ) → int_eq y (pos 0) ≡ b → y ≢ pos 0 → cond b None (Some v) ≡ Some v
unless_zero true y v e h = absurd (h ((signed_Decides y (pos 0)).0 e))
unless_zero false y v e h = refl

pub operation-add_i64 : (x y : ℤ) → FitsSigned w64 x → FitsSigned w64 y → operation binary.Add kinds.I64 x y ≡ Some (int_wrapping_add w64 x y)
operation-add_i64 x y f g = ap Some (sym (wrapping_add_is w64 x y f g))

pub operation-sub_i64 : (x y : ℤ) → FitsSigned w64 x → FitsSigned w64 y → operation binary.Sub kinds.I64 x y ≡ Some (int_wrapping_sub w64 x y)
operation-sub_i64 x y f g = ap Some (sym (wrapping_sub_is w64 x y f g))

pub operation-mul_i64 : (x y : ℤ) → FitsSigned w64 x → FitsSigned w64 y → operation binary.Mul kinds.I64 x y ≡ Some (int_wrapping_mul w64 x y)
operation-mul_i64 x y f g = ap Some (sym (wrapping_mul_is w64 x y f g))

pub operation-div_i64 : (x y : ℤ) → FitsSigned w64 x → y ≢ pos 0 → operation binary.Div kinds.I64 x y ≡ Some (int_wrapping_div w64 x y)
operation-div_i64 x y f h =
    unless_zero (int_eq y (pos 0)) y (int_wrap w64 (int_div x y)) refl h ∙ ap Some (sym (wrapping_div_is x y f))

pub operation-rem_i64 : (x y : ℤ) → y ≢ pos 0 → operation binary.Rem kinds.I64 x y ≡ Some (int_rem x y)
operation-rem_i64 x y h = unless_zero (int_eq y (pos 0)) y (int_rem x y) refl h
