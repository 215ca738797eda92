-- Integers with their signs.
use Rattle.std.proofs.Common.{◌≡◌, inl, inr, sym, ◌∙◌, ℕ, ◌^◌, ◌≤◌, List, Option, Some, None, IfNone, ap, arith, pos, neg_ℤ}
use Rattle.std.specs.Option.{option_map}
use Rattle.std.proofs.lemmas.Int.{ints}
use Rattle.weld_values.specs.Tokens.{after_byte, numeral_at, signed_at, integer_at}
use Rattle.weld_values.specs.Judging.{IsCapped, IsFarOut, IsClamped}

far_positive : (n : ℕ) → 2 ^ 64 ≤ n → IsFarOut (pos n)
far_positive n h = inr (omega (arith, ints))

far_negative : (n : ℕ) → 2 ^ 64 ≤ n → IsFarOut (neg_ℤ (pos n))
far_negative n h = inl (omega (arith, ints))

pub clamped_positive : (value n : ℕ) → IsCapped value n → IsClamped (pos value) (pos n)
clamped_positive value n (inl e) = inl (ap pos e)
clamped_positive value n (inr p) = inr (far_positive value p.0, far_positive n p.1)

pub clamped_negative : (value n : ℕ) → IsCapped value n → IsClamped (neg_ℤ (pos value)) (neg_ℤ (pos n))
clamped_negative value n (inl e) = inl (ap (λ (v : ℕ). neg_ℤ (pos v)) e)
clamped_negative value n (inr p) = inr (far_negative value p.0, far_negative n p.1)

pub integer_by : (text : List ℕ) (o : Option (List ℕ)) → o ≡ after_byte 45 text → integer_at text ≡ signed_at o text
unfolding integer_at
integer_by text o e = ap (λ (p : Option (List ℕ)). signed_at p text) (sym e)

pub negative_found : (text digits rest : List ℕ) (n : ℕ) → Some digits ≡ after_byte 45 text → numeral_at digits ≡ Some (n, rest) → integer_at text ≡ Some (neg_ℤ (pos n), rest)
negative_found text digits rest n e h = integer_by text (Some digits) e ∙ ap (λ (o : Option (ℕ × List ℕ)). option_map (λ (f : ℕ × List ℕ). (neg_ℤ (pos f.0), f.1)) o) h

pub negative_none : (text digits : List ℕ) → Some digits ≡ after_byte 45 text → numeral_at digits ≡ None → integer_at text ≡ None
negative_none text digits e h = integer_by text (Some digits) e ∙ ap (λ (o : Option (ℕ × List ℕ)). option_map (λ (f : ℕ × List ℕ). (neg_ℤ (pos f.0), f.1)) o) h

pub positive_found : (text rest : List ℕ) (n : ℕ) → None ≡ after_byte 45 text → numeral_at text ≡ Some (n, rest) → integer_at text ≡ Some (pos n, rest)
positive_found text rest n e h = integer_by text None e ∙ ap (λ (o : Option (ℕ × List ℕ)). option_map (λ (f : ℕ × List ℕ). (pos f.0, f.1)) o) h

pub positive_none : (text : List ℕ) → None ≡ after_byte 45 text → numeral_at text ≡ None → integer_at text ≡ None
positive_none text e h = integer_by text None e ∙ ap (λ (o : Option (ℕ × List ℕ)). option_map (λ (f : ℕ × List ℕ). (pos f.0, f.1)) o) h

pub none_then : {A : Type 0} (o : Option A) {P Q : Type 0} → IfNone o P → (P → Q) → IfNone o Q
none_then None h f = f h
none_then (Some x) h f = tt
