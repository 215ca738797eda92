-- Numbers in words of 64 bits.
use Rattle.std.proofs.Common.{◌≡◌, ◌≢◌, ℤ, pos, negsuc, ◌≤ℤ◌, FitsSigned, w64, refl, sym, ap, ◌∙◌, subst, arith}
use Rattle.std.proofs.lemmas.Int.{ints}
use Rattle.weld_data.specs.declared.kind.Kind.{Kind}
use Rattle.weld_data.specs.declared.kind.Kind.TheVariants.{Bool, I8, I16, I32, I64, U8, U16, U32, U64}
use Rattle.weld_data.specs.Kind.{InRange, IsNarrow}
use Rattle.weld_data.proofs.Ranges.{FitsSigned-kind, IsNarrow-not_u64}
use Rattle.weld_eval.specs.Word.{of_word}

-- the word of a number of a narrow kind is the number
pub narrow_word : (kind : Kind) (x : ℤ) → IsNarrow kind → of_word kind x ≡ x
narrow_word Bool x n = refl
narrow_word I8 x n = refl
narrow_word I16 x n = refl
narrow_word I32 x n = refl
narrow_word I64 x n = refl
narrow_word U8 x n = refl
narrow_word U16 x n = refl
narrow_word U32 x n = refl
narrow_word U64 x n = absurd n

-- a kind that isn't narrow is u64
pub wide_kind : (kind : Kind) → (IsNarrow kind → ⊥) → kind ≡ U64
wide_kind Bool n = absurd (n tt)
wide_kind I8 n = absurd (n tt)
wide_kind I16 n = absurd (n tt)
wide_kind I32 n = absurd (n tt)
wide_kind I64 n = absurd (n tt)
wide_kind U8 n = absurd (n tt)
wide_kind U16 n = absurd (n tt)
wide_kind U32 n = absurd (n tt)
wide_kind U64 n = refl

-- numbers of a narrow kind fit 64 bits with a sign
pub fits_i64 : (kind : Kind) (x : ℤ) → IsNarrow kind → InRange kind x → FitsSigned w64 x
fits_i64 = FitsSigned-kind

pub narrow_in_range : (kind : Kind) (x : ℤ) → IsNarrow kind → InRange kind x → InRange kind (of_word kind x)
narrow_in_range kind x n r = subst (InRange kind) (sym (narrow_word kind x n)) r

-- a kind that isn't u64 is narrow
pub narrow_kind : (kind : Kind) → kind ≢ U64 → IsNarrow kind
narrow_kind = IsNarrow-not_u64

-- a word that isn't negative is the number of kind u64 with the same bits
pub low_word : (kind : Kind) (x : ℤ) → kind ≡ U64 → pos 0 ≤ℤ x → of_word kind x ≡ x
low_word kind x is low = ap (λ (k : Kind). of_word k x) is ∙ by x low
  where
    by : (z : ℤ) → pos 0 ≤ℤ z → of_word U64 z ≡ z
    by (pos n) h = refl
    by (negsuc n) h = let no : ⊥ = omega (arith, ints, h) in absurd no
