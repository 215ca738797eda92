-- A count that stops at the greatest number tells one use.
use Rattle.std.proofs.Common.{◌≡◌, ◌≢◌, ◌⊎◌, inl, inr, ℕ, ◌-◌, ◌^◌, ◌==◌, true, false, min, sym, ◌∙◌, arith, eq-eqb, ne_eqb}
use Rattle.std.proofs.lemmas.Bool.{cases_eq}

-- numbers of which one is 1 where the other is
alike : (r n : ℕ) → (r ≡ 1 → n ≡ 1) → (n ≡ 1 → r ≡ 1) → (r == 1) ≡ (n == 1)
alike r n f g = by (cases_eq r 1)
  where
    by : (r ≡ 1) ⊎ (r ≢ 1) → (r == 1) ≡ (n == 1)
    by (inl e) = eq-eqb r 1 e ∙ sym (eq-eqb n 1 (f e))
    by (inr ne) = ne_eqb r 1 ne ∙ sym (ne_eqb n 1 (λ e. ne (g e)))

pub once_is : (r n : ℕ) → r ≡ min n (2 ^ 64 - 1) → (r == 1) ≡ (n == 1)
once_is r n h = alike r n (λ e. omega arith) (λ e. omega arith)
