-- How large the numbers of a kind can be.
use Rattle.std.proofs.Common.{◌≢◌, refl, ◌^◌, ◌≤◌, ℤ, ◌*ℤ◌, unsigned_abs, FitsSigned, w64, arith}
use Rattle.std.specs.Int.{w128}
use Rattle.std.proofs.lemmas.Int.{ints, fits_signed_mul}
use Rattle.weld_data.specs.declared.kind.Kind.{Kind}
use Rattle.weld_data.specs.declared.kind.Kind.TheVariants.{Bool, I8, I16, I32, I64, U8, U16, U32, U64}
use Rattle.weld_data.specs.Kind.{InRange, IsNarrow}

pub IsNarrow-not_u64 : (kind : Kind) → kind ≢ U64 → IsNarrow kind
IsNarrow-not_u64 Bool n = tt
IsNarrow-not_u64 I8 n = tt
IsNarrow-not_u64 I16 n = tt
IsNarrow-not_u64 I32 n = tt
IsNarrow-not_u64 I64 n = tt
IsNarrow-not_u64 U8 n = tt
IsNarrow-not_u64 U16 n = tt
IsNarrow-not_u64 U32 n = tt
IsNarrow-not_u64 U64 n = n refl

pub FitsSigned-kind : (kind : Kind) (x : ℤ) → IsNarrow kind → InRange kind x → FitsSigned w64 x
FitsSigned-kind Bool x n r = omega (arith, ints, r.low, r.high)
FitsSigned-kind I8 x n r = omega (arith, ints, r.low, r.high)
FitsSigned-kind I16 x n r = omega (arith, ints, r.low, r.high)
FitsSigned-kind I32 x n r = omega (arith, ints, r.low, r.high)
FitsSigned-kind I64 x n r = omega (arith, ints, r.low, r.high)
FitsSigned-kind U8 x n r = omega (arith, ints, r.low, r.high)
FitsSigned-kind U16 x n r = omega (arith, ints, r.low, r.high)
FitsSigned-kind U32 x n r = omega (arith, ints, r.low, r.high)
FitsSigned-kind U64 x n r = absurd n

pub InRange-i64 : (x : ℤ) → FitsSigned w64 x → InRange I64 x
InRange-i64 x f = record { low = omega (arith, ints); high = omega (arith, ints) }

unsigned_abs-le : (kind : Kind) (x : ℤ) → IsNarrow kind → InRange kind x → unsigned_abs x ≤ 2 ^ 63
unsigned_abs-le kind x n r = let f = FitsSigned-kind kind x n r in omega (arith, ints)

-- a product of two numbers of such a kind fits an i128
pub product_fits : (kind : Kind) (x y : ℤ) → IsNarrow kind → InRange kind x → InRange kind y → FitsSigned w128 (x *ℤ y)
product_fits kind x y n r s =
    fits_signed_mul w128 x y (2 ^ 63) (2 ^ 63) (unsigned_abs-le kind x n r) (unsigned_abs-le kind y n s) (omega arith)

pub FitsSigned-wide : (x : ℤ) → FitsSigned w64 x → FitsSigned w128 x
FitsSigned-wide x f = omega (arith, ints)
