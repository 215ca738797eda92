-- Numbers in words: what is said of them is said of the words modulo two to the 64th.
use Rattle.std.proofs.Common.{◌≡◌, ℕ, ◌^◌, ℤ, pos, negsuc, neg_ℤ, ◌+ℤ◌, ◌-ℤ◌, ◌*ℤ◌, int_div, int_rem, FitsSigned, unsigned_abs, w64, refl, sym, ap, ◌∙◌, arith}
use Rattle.std.specs.Int.{Width, cast_unsigned, cast_signed, int_rem_euclid, int_wrap}
use mir.Val.{bits}
use Rattle.std.proofs.lemmas.Bool.Decides.{Decides-int_eq, same_from_decides}
use Rattle.std.specs.Ordering.{int_eq}
use Rattle.std.proofs.lemmas.Int.{ints, to_z-of_z}
use Rattle.std.proofs.Math.IntN.{*ℤ_comm}
use Rattle.weld_data.specs.declared.kind.Kind.{Kind}
use Rattle.weld_data.specs.declared.kind.Kind.TheVariants as kinds
use Rattle.weld_data.specs.Kind.{IsNarrow, InRange, size_of}
use Rattle.weld_data.specs.Wrapped.{SameModulo, wrapped}
use Rattle.weld_data.proofs.Wrapping.{IsWrapped-wrapped, wrapped-same, wrapped-in_range}
use Rattle.weld_data.proofs.Integers.{add-*ℤ, SameModulo-refl, SameModulo-mul}
use Rattle.weld_eval.specs.Word.{of_word}
use Rattle.weld_eval.proofs.Shorts.{narrow_word}

-- the number of kind u64 with the bits of a word is in range
pub unsigned_in_range : (x : ℤ) → FitsSigned w64 x → InRange kinds.U64 (of_word kinds.U64 x)
unsigned_in_range (pos n) f = record { low = omega (arith, ints); high = omega (arith, ints, f) }
unsigned_in_range (negsuc n) f = record { low = omega (arith, ints); high = omega (arith, ints, f) }

same_unsigned : (x : ℤ) → FitsSigned w64 x → SameModulo (2 ^ 64) (of_word kinds.U64 x) x
same_unsigned (pos n) f = (pos 0, omega (arith, ints))
same_unsigned (negsuc n) f = (pos 1, omega (arith, ints, f))

-- a number and its word differ by a multiple of the kind's size
pub same_word : (k : Kind) (x : ℤ) → FitsSigned w64 x → SameModulo (size_of k) (of_word k x) x
same_word kinds.Bool x f = SameModulo-refl _ x
same_word kinds.I8 x f = SameModulo-refl _ x
same_word kinds.I16 x f = SameModulo-refl _ x
same_word kinds.I32 x f = SameModulo-refl _ x
same_word kinds.I64 x f = SameModulo-refl _ x
same_word kinds.U8 x f = SameModulo-refl _ x
same_word kinds.U16 x f = SameModulo-refl _ x
same_word kinds.U32 x f = SameModulo-refl _ x
same_word kinds.U64 x f = same_unsigned x f

pub unsigned_wrapped : (x : ℤ) → FitsSigned w64 x → of_word kinds.U64 x ≡ wrapped kinds.U64 x
unsigned_wrapped x f =
    sym (wrapped-in_range kinds.U64 (of_word kinds.U64 x) (unsigned_in_range x f)) ∙ wrapped-same kinds.U64 (of_word kinds.U64 x) x (same_unsigned x f)

same_wide : (kind : Kind) (x y : ℤ) → SameModulo (2 ^ 64) x y → SameModulo (size_of kind) x y
same_wide kinds.Bool x y s = (s.0 *ℤ pos (2 ^ 63), omega (arith, ints, s.1))
same_wide kinds.I8 x y s = (s.0 *ℤ pos (2 ^ 56), omega (arith, ints, s.1))
same_wide kinds.I16 x y s = (s.0 *ℤ pos (2 ^ 48), omega (arith, ints, s.1))
same_wide kinds.I32 x y s = (s.0 *ℤ pos (2 ^ 32), omega (arith, ints, s.1))
same_wide kinds.I64 x y s = s
same_wide kinds.U8 x y s = (s.0 *ℤ pos (2 ^ 56), omega (arith, ints, s.1))
same_wide kinds.U16 x y s = (s.0 *ℤ pos (2 ^ 48), omega (arith, ints, s.1))
same_wide kinds.U32 x y s = (s.0 *ℤ pos (2 ^ 32), omega (arith, ints, s.1))
same_wide kinds.U64 x y s = s

-- to wrap to 64 bits on the way changes nothing
pub wrapped_wide : (kind : Kind) (x : ℤ) → wrapped kind (int_wrap w64 x) ≡ wrapped kind x
wrapped_wide kind x =
    sym (wrapped-same kind x (int_wrap w64 x) (same_wide kind x (int_wrap w64 x) (IsWrapped-wrapped kinds.I64 x).same))

same_sum : (n : ℕ) (a b x y : ℤ) → SameModulo n a x → SameModulo n b y → SameModulo n (a +ℤ b) (x +ℤ y)
same_sum n a b x y s t = let e = add-*ℤ s.0 t.0 (pos n) in (s.0 +ℤ t.0, omega (arith, ints, s.1, t.1))

same_difference : (n : ℕ) (a b x y : ℤ) → SameModulo n a x → SameModulo n b y → SameModulo n (a -ℤ b) (x -ℤ y)
same_difference n a b x y s t =
    let whole : s.0 ≡ (s.0 -ℤ t.0) +ℤ t.0 = omega (arith, ints) in
    let e : s.0 *ℤ pos n ≡ (s.0 -ℤ t.0) *ℤ pos n +ℤ t.0 *ℤ pos n = ap (λ z. z *ℤ pos n) whole ∙ add-*ℤ (s.0 -ℤ t.0) t.0 (pos n) in (s.0 -ℤ t.0, omega (arith, ints, s.1, t.1))

-- to add, subtract or multiply words is to do so with their numbers
pub words_sum : (k : Kind) (x y : ℤ) → FitsSigned w64 x → FitsSigned w64 y → wrapped k (x +ℤ y) ≡ wrapped k (of_word k x +ℤ of_word k y)
words_sum k x y f g = sym (wrapped-same k _ _ (same_sum _ _ _ _ _ (same_word k x f) (same_word k y g)))

pub words_difference : (k : Kind) (x y : ℤ) → FitsSigned w64 x → FitsSigned w64 y → wrapped k (x -ℤ y) ≡ wrapped k (of_word k x -ℤ of_word k y)
words_difference k x y f g = sym (wrapped-same k _ _ (same_difference _ _ _ _ _ (same_word k x f) (same_word k y g)))

pub words_product : (k : Kind) (x y : ℤ) → FitsSigned w64 x → FitsSigned w64 y → wrapped k (x *ℤ y) ≡ wrapped k (of_word k x *ℤ of_word k y)
words_product k x y f g =
    sym
    (wrapped-same k _ _ (SameModulo-mul _ _ _ (of_word k y) (same_word k x f))
    ∙ ap (wrapped k) (*ℤ_comm x (of_word k y))
    ∙ wrapped-same k _ _ (SameModulo-mul _ _ _ x (same_word k y g))
    ∙ ap (wrapped k) (*ℤ_comm y x))

-- a number converts as its word does
pub word_converted : (to k : Kind) (x : ℤ) → FitsSigned w64 x → wrapped to x ≡ wrapped to (of_word k x)
word_converted to kinds.Bool x f = refl
word_converted to kinds.I8 x f = refl
word_converted to kinds.I16 x f = refl
word_converted to kinds.I32 x f = refl
word_converted to kinds.I64 x f = refl
word_converted to kinds.U8 x f = refl
word_converted to kinds.U16 x f = refl
word_converted to kinds.U32 x f = refl
word_converted to kinds.U64 x f = sym (wrapped-same to _ _ (same_wide to _ _ (same_unsigned x f)))

opposite_unsigned : (x : ℤ) → FitsSigned w64 x → SameModulo (2 ^ 64) (neg_ℤ (of_word kinds.U64 x)) (neg_ℤ x)
opposite_unsigned (pos n) f = (pos 0, omega (arith, ints))
opposite_unsigned (negsuc n) f = (negsuc 0, omega (arith, ints, f))

pub word_opposite : (k : Kind) (x : ℤ) → FitsSigned w64 x → wrapped k (neg_ℤ x) ≡ wrapped k (neg_ℤ (of_word k x))
word_opposite kinds.Bool x f = refl
word_opposite kinds.I8 x f = refl
word_opposite kinds.I16 x f = refl
word_opposite kinds.I32 x f = refl
word_opposite kinds.I64 x f = refl
word_opposite kinds.U8 x f = refl
word_opposite kinds.U16 x f = refl
word_opposite kinds.U32 x f = refl
word_opposite kinds.U64 x f = sym (wrapped-same kinds.U64 _ _ (opposite_unsigned x f))

-- words are equal where their numbers are
unsigned_only : (x y : ℤ) → FitsSigned w64 x → FitsSigned w64 y → of_word kinds.U64 x ≡ of_word kinds.U64 y → x ≡ y
unsigned_only x y f g e = let s = same_unsigned x f in let t = same_unsigned y g in omega (arith, ints, f, g, e, s.1, t.1)

word_only : (k : Kind) (x y : ℤ) → FitsSigned w64 x → FitsSigned w64 y → of_word k x ≡ of_word k y → x ≡ y
word_only kinds.Bool x y f g e = e
word_only kinds.I8 x y f g e = e
word_only kinds.I16 x y f g e = e
word_only kinds.I32 x y f g e = e
word_only kinds.I64 x y f g e = e
word_only kinds.U8 x y f g e = e
word_only kinds.U16 x y f g e = e
word_only kinds.U32 x y f g e = e
word_only kinds.U64 x y f g e = unsigned_only x y f g e

zero_word : (k : Kind) → of_word k (pos 0) ≡ pos 0
zero_word kinds.Bool = refl
zero_word kinds.I8 = refl
zero_word kinds.I16 = refl
zero_word kinds.I32 = refl
zero_word kinds.I64 = refl
zero_word kinds.U8 = refl
zero_word kinds.U16 = refl
zero_word kinds.U32 = refl
zero_word kinds.U64 = refl

zero_fits : FitsSigned w64 (pos 0)
zero_fits = omega (arith, ints)

pub equal_words : (k : Kind) (x y : ℤ) → FitsSigned w64 x → FitsSigned w64 y → int_eq x y ≡ int_eq (of_word k x) (of_word k y)
equal_words k x y f g =
    same_from_decides _ _ (Decides-int_eq x y)
    ((λ e. word_only k x y f g ((Decides-int_eq _ _).0 e)), (λ e. (Decides-int_eq _ _).1 (ap (of_word k) e)))

pub zero_words : (k : Kind) (x : ℤ) → FitsSigned w64 x → int_eq x (pos 0) ≡ int_eq (of_word k x) (pos 0)
zero_words k x f = equal_words k x (pos 0) f zero_fits ∙ ap (int_eq (of_word k x)) (zero_word k)

-- what the code computes by its bits
pub by_bits : (v w : Width) (x r s t : ℤ) → FitsSigned v x → FitsSigned v r → FitsSigned w s → FitsSigned v t → r ≡ int_rem_euclid (cast_signed v (cast_unsigned v x)) (pos (2 ^ bits w)) → s ≡ cast_signed w (unsigned_abs (cast_signed v (cast_unsigned v r))) → t ≡ cast_signed w (cast_unsigned w s) → cast_signed v (cast_unsigned v t) ≡ int_wrap w x
unfolding int_wrap
by_bits v w x r s t fx fr fs ft er es et =
    to_z-of_z v t ft ∙ et ∙ to_z-of_z w s fs ∙ es
    ∙ ap (λ a. cast_signed w (unsigned_abs a)) (to_z-of_z v r fr ∙ er ∙ ap (λ a. int_rem_euclid a (pos (2 ^ bits w))) (to_z-of_z v x fx))

pub quotient_word : (k : Kind) (r x y : ℤ) → IsNarrow k → of_word k r ≡ wrapped k (int_div x y) → of_word k r ≡ wrapped k (int_div (of_word k x) (of_word k y))
quotient_word k r x y n e = e ∙ ap (λ z. wrapped k (int_div z y)) (sym (narrow_word k x n)) ∙ ap (λ z. wrapped k (int_div (of_word k x) z)) (sym (narrow_word k y n))

pub remainder_word : (k : Kind) (r x y : ℤ) → IsNarrow k → r ≡ int_rem x y → of_word k r ≡ int_rem (of_word k x) (of_word k y)
remainder_word k r x y n e = narrow_word k r n ∙ e ∙ ap (λ z. int_rem z y) (sym (narrow_word k x n)) ∙ ap (λ z. int_rem (of_word k x) z) (sym (narrow_word k y n))
