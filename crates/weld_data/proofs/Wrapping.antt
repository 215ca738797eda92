-- `wrapped` gives the one number of the kind that equals its argument modulo the kind's size.
use Rattle.std.proofs.Common.{◌≡◌, ℕ, suc, ◌-◌, ◌/◌, ◌^◌, ◌<◌, ◌≤◌, Bool, true, false, ltb, ℤ, pos, negsuc, ◌+ℤ◌, ◌*ℤ◌, unsigned_abs, int_div, FitsSigned, ap, sym, refl, ◌∙◌, subst, arith, w8, w16, w32, w64, mod-lt, div-add-mod', pow_pos, mod-eq_of_lt, div-le_self}
use Rattle.std.specs.Int.{Width, w128, cast_signed, cast_unsigned, int_rem_euclid, int_wrap, int_wrapping_div}
use mir.Val.{bits, hbits, sel}
use Rattle.std.proofs.lemmas.Int.{ints, to_z-of_z, SFits-int_wrap}
use Rattle.weld_data.specs.declared.kind.Kind.{Kind}
use Rattle.weld_data.specs.declared.kind.Kind.TheVariants as kinds
use Rattle.weld_data.specs.Kind.{InRange, size_of}
use Rattle.weld_data.specs.Wrapped.{SameModulo, IsWrapped, wrapped}
use Rattle.weld_data.proofs.Integers.{add-*ℤ, SameModulo-refl, SameModulo-add, SameModulo-mul}

-- what the code computes by its bits
pub wrapped_by_bits : (w : Width) (x r s t : ℤ) → FitsSigned w128 x → FitsSigned w128 r → FitsSigned w s → FitsSigned w128 t → r ≡ int_rem_euclid (cast_signed w128 (cast_unsigned w128 x)) (pos (2 ^ bits w)) → s ≡ cast_signed w (unsigned_abs (cast_signed w128 (cast_unsigned w128 r))) → t ≡ cast_signed w (cast_unsigned w s) → cast_signed w128 (cast_unsigned w128 t) ≡ int_wrap w x
unfolding int_wrap
wrapped_by_bits w x r s t fx fr fs ft er es et =
    to_z-of_z w128 t ft ∙ et ∙ to_z-of_z w s fs ∙ es
    ∙ ap (λ a. cast_signed w (unsigned_abs a)) (to_z-of_z w128 r fr ∙ er ∙ ap (λ a. int_rem_euclid a (pos (2 ^ bits w))) (to_z-of_z w128 x fx))

-- the number that is left differs from x by a multiple of m
SameModulo-rem_euclid : (m : ℕ) (x : ℤ) → 0 < m → SameModulo m x (int_rem_euclid x (pos m))
SameModulo-rem_euclid m (pos a) h = (pos (a / m), let d = div-add-mod' a m in omega (arith, ints))
SameModulo-rem_euclid m (negsuc a) h =
    (negsuc (a / m), let d = div-add-mod' a m in let small = mod-lt a h in omega (arith, ints))

-- the signed number of n bits differs from n by none or by one turn
SameModulo-cast_signed : (w : Width) (n : ℕ) → n < 2 ^ bits w → SameModulo (2 ^ bits w) (pos n) (cast_signed w n)
SameModulo-cast_signed w n h = by (ltb n (2 ^ hbits w)) refl
  where
    by : (t : Bool) → ltb n (2 ^ hbits w) ≡ t → SameModulo (2 ^ bits w) (pos n) (sel t (pos n) (negsuc (2 ^ bits w - suc n)))
    by true e = (pos 0, omega (arith, ints))
    by false e = (pos 1, omega (arith, ints))

SameModulo-trans : (m : ℕ) (x y z : ℤ) → SameModulo m x y → SameModulo m y z → SameModulo m x z
SameModulo-trans m x y z s t =
    let e = add-*ℤ s.0 t.0 (pos m) in (s.0 +ℤ t.0, omega (arith, ints, s.1, t.1))

rem_euclid_abs : (m : ℕ) (x : ℤ) → 0 < m → (unsigned_abs (int_rem_euclid x (pos m)) < m) × (pos (unsigned_abs (int_rem_euclid x (pos m))) ≡ int_rem_euclid x (pos m))
rem_euclid_abs m (pos a) h = (mod-lt a h, refl)
rem_euclid_abs m (negsuc a) h = (omega arith, refl)

SameModulo-int_wrap : (w : Width) (x : ℤ) → SameModulo (2 ^ bits w) x (int_wrap w x)
unfolding int_wrap
SameModulo-int_wrap w x =
    let m = 2 ^ bits w in
    let some = pow_pos (bits w) in
    let r = int_rem_euclid x (pos m) in
    let a = rem_euclid_abs m x some in
    let to : SameModulo m x (pos (unsigned_abs r)) = subst (SameModulo m x) (sym a.1) (SameModulo-rem_euclid m x some) in
    SameModulo-trans m x _ _ to (SameModulo-cast_signed w (unsigned_abs r) a.0)

-- the number of the kind is there
pub IsWrapped-wrapped : (kind : Kind) (x : ℤ) → IsWrapped kind x (wrapped kind x)
IsWrapped-wrapped kinds.Bool x = record {
  in_range = let a = rem_euclid_abs 2 x (omega arith) in record { low = omega (arith, ints); high = omega (arith, ints) };
  same = SameModulo-rem_euclid 2 x (omega arith);
}
IsWrapped-wrapped kinds.I8 x = record {
  in_range = let f = SFits-int_wrap w8 x in record { low = omega (arith, ints); high = omega (arith, ints) };
  same = SameModulo-int_wrap w8 x;
}
IsWrapped-wrapped kinds.I16 x = record {
  in_range = let f = SFits-int_wrap w16 x in record { low = omega (arith, ints); high = omega (arith, ints) };
  same = SameModulo-int_wrap w16 x;
}
IsWrapped-wrapped kinds.I32 x = record {
  in_range = let f = SFits-int_wrap w32 x in record { low = omega (arith, ints); high = omega (arith, ints) };
  same = SameModulo-int_wrap w32 x;
}
IsWrapped-wrapped kinds.I64 x = record {
  in_range = let f = SFits-int_wrap w64 x in record { low = omega (arith, ints); high = omega (arith, ints) };
  same = SameModulo-int_wrap w64 x;
}
IsWrapped-wrapped kinds.U8 x = record {
  in_range = let a = rem_euclid_abs (2 ^ 8) x (omega arith) in record { low = omega (arith, ints); high = omega (arith, ints) };
  same = SameModulo-rem_euclid (2 ^ 8) x (omega arith);
}
IsWrapped-wrapped kinds.U16 x = record {
  in_range = let a = rem_euclid_abs (2 ^ 16) x (omega arith) in record { low = omega (arith, ints); high = omega (arith, ints) };
  same = SameModulo-rem_euclid (2 ^ 16) x (omega arith);
}
IsWrapped-wrapped kinds.U32 x = record {
  in_range = let a = rem_euclid_abs (2 ^ 32) x (omega arith) in record { low = omega (arith, ints); high = omega (arith, ints) };
  same = SameModulo-rem_euclid (2 ^ 32) x (omega arith);
}
IsWrapped-wrapped kinds.U64 x = record {
  in_range = let a = rem_euclid_abs (2 ^ 64) x (omega arith) in record { low = omega (arith, ints); high = omega (arith, ints) };
  same = SameModulo-rem_euclid (2 ^ 64) x (omega arith);
}

-- and it is the only one
pub IsWrapped-only : (kind : Kind) (x y z : ℤ) → IsWrapped kind x y → IsWrapped kind x z → y ≡ z
IsWrapped-only kinds.Bool x y z a b = omega (arith, ints, a.in_range.low, a.in_range.high, b.in_range.low, b.in_range.high, a.same.1, b.same.1)
IsWrapped-only kinds.I8 x y z a b = omega (arith, ints, a.in_range.low, a.in_range.high, b.in_range.low, b.in_range.high, a.same.1, b.same.1)
IsWrapped-only kinds.I16 x y z a b = omega (arith, ints, a.in_range.low, a.in_range.high, b.in_range.low, b.in_range.high, a.same.1, b.same.1)
IsWrapped-only kinds.I32 x y z a b = omega (arith, ints, a.in_range.low, a.in_range.high, b.in_range.low, b.in_range.high, a.same.1, b.same.1)
IsWrapped-only kinds.I64 x y z a b = omega (arith, ints, a.in_range.low, a.in_range.high, b.in_range.low, b.in_range.high, a.same.1, b.same.1)
IsWrapped-only kinds.U8 x y z a b = omega (arith, ints, a.in_range.low, a.in_range.high, b.in_range.low, b.in_range.high, a.same.1, b.same.1)
IsWrapped-only kinds.U16 x y z a b = omega (arith, ints, a.in_range.low, a.in_range.high, b.in_range.low, b.in_range.high, a.same.1, b.same.1)
IsWrapped-only kinds.U32 x y z a b = omega (arith, ints, a.in_range.low, a.in_range.high, b.in_range.low, b.in_range.high, a.same.1, b.same.1)
IsWrapped-only kinds.U64 x y z a b = omega (arith, ints, a.in_range.low, a.in_range.high, b.in_range.low, b.in_range.high, a.same.1, b.same.1)

-- numbers that are equal modulo the kind's size wrap to the same
pub wrapped-same : (kind : Kind) (x y : ℤ) → SameModulo (size_of kind) x y → wrapped kind x ≡ wrapped kind y
wrapped-same kind x y s =
    let w = IsWrapped-wrapped kind y in
    IsWrapped-only kind x _ _ (IsWrapped-wrapped kind x) (record { in_range = w.in_range; same = SameModulo-trans _ x y _ s w.same })

pub wrapped-in_range : (kind : Kind) (x : ℤ) → InRange kind x → wrapped kind x ≡ x
wrapped-in_range kind x r =
    IsWrapped-only kind x _ _ (IsWrapped-wrapped kind x) (record { in_range = r; same = SameModulo-refl _ x })

-- to wrap on the way changes nothing
pub wrapped-add_left : (kind : Kind) (x y : ℤ) → wrapped kind (wrapped kind x +ℤ y) ≡ wrapped kind (x +ℤ y)
wrapped-add_left kind x y =
    sym (wrapped-same kind _ _ (SameModulo-add _ x _ y (IsWrapped-wrapped kind x).same))

pub wrapped-mul_left : (kind : Kind) (x y : ℤ) → wrapped kind (wrapped kind x *ℤ y) ≡ wrapped kind (x *ℤ y)
wrapped-mul_left kind x y =
    sym (wrapped-same kind _ _ (SameModulo-mul _ x _ y (IsWrapped-wrapped kind x).same))

-- a number that is within one turn is read by its bits
cast_signed-near : (z : ℤ) → unsigned_abs z ≤ 2 ^ 63 → cast_signed w64 (cast_unsigned w64 z) ≡ int_wrap w64 z
unfolding int_wrap
cast_signed-near (pos n) h = ap (cast_signed w64) (sym (mod-eq_of_lt {n = n} {m = 2 ^ 64} (omega arith)))
cast_signed-near (negsuc n) h =
    let e = mod-eq_of_lt {n = n} {m = 2 ^ 64} (omega arith) in ap (cast_signed w64) (omega arith)

unsigned_abs-int_div : (x y : ℤ) → unsigned_abs (int_div x y) ≤ unsigned_abs x
unsigned_abs-int_div (pos a) (pos b) = div-le_self a b
unsigned_abs-int_div (pos a) (negsuc b) = let d = div-le_self a (suc b) in omega (arith, ints)
unsigned_abs-int_div (negsuc a) (pos b) = let d = div-le_self (suc a) b in omega (arith, ints)
unsigned_abs-int_div (negsuc a) (negsuc b) = div-le_self (suc a) (suc b)

-- std's wrapping quotient at 64 bits
pub wrapping_div_is : (x y : ℤ) → FitsSigned w64 x → int_wrapping_div w64 x y ≡ int_wrap w64 (int_div x y)
wrapping_div_is x y f =
    let small : unsigned_abs x ≤ 2 ^ 63 = omega (arith, ints) in
    let less = unsigned_abs-int_div x y in cast_signed-near (int_div x y) (omega arith)
