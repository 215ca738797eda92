-- A count that stops at the greatest number tells no use.
use Rattle.std.proofs.Common.{◌≡◌, ◌≢◌, ◌⊎◌, inl, inr, ℕ, ◌-◌, ◌^◌, ◌==◌, min, sym, ◌∙◌, arith, eq-eqb, ne_eqb}
use Rattle.std.proofs.lemmas.Bool.{cases_eq}

alike : (r n : ℕ) → (r ≡ 0 → n ≡ 0) → (n ≡ 0 → r ≡ 0) → (r == 0) ≡ (n == 0)
alike r n f g = by (cases_eq r 0)
  where
    by : (r ≡ 0) ⊎ (r ≢ 0) → (r == 0) ≡ (n == 0)
    by (inl e) = eq-eqb r 0 e ∙ sym (eq-eqb n 0 (f e))
    by (inr ne) = ne_eqb r 0 ne ∙ sym (ne_eqb n 0 (λ e. ne (g e)))

pub unused_is : (r n : ℕ) → r ≡ min n (2 ^ 64 - 1) → (r == 0) ≡ (n == 0)
unused_is r n h = alike r n (λ e. omega arith) (λ e. omega arith)
