-- A count that stops at the greatest number tells one use.
use Rattle.std.proofs.Common.{◌≡◌, ◌≢◌, ◌⊎◌, inl, inr, ℕ, ◌+◌, ◌-◌, ◌^◌, ◌==◌, true, false, min, sym, ◌∙◌, arith, eq-eqb, ne_eqb}
use Rattle.std.proofs.lemmas.Bool.{cases_eq}

-- numbers of which one is 1 where the other is
alike : (r n : ℕ) → (r ≡ 1 → n ≡ 1) → (n ≡ 1 → r ≡ 1) → (r == 1) ≡ (n == 1)
alike r n f g = by (cases_eq r 1)
  where
    by : (r ≡ 1) ⊎ (r ≢ 1) → (r == 1) ≡ (n == 1)
    by (inl e) = eq-eqb r 1 e ∙ sym (eq-eqb n 1 (f e))
    by (inr ne) = ne_eqb r 1 ne ∙ sym (ne_eqb n 1 (λ e. ne (g e)))

-- and none
pub none_is : (r n : ℕ) → r ≡ min n (2 ^ 64 - 1) → (r == 0) ≡ (n == 0)
none_is r n h = by (cases_eq r 0)
  where
    by : (r ≡ 0) ⊎ (r ≢ 0) → (r == 0) ≡ (n == 0)
    by (inl e) = let none : n ≡ 0 = omega arith in eq-eqb r 0 e ∙ sym (eq-eqb n 0 none)
    by (inr ne) = let some : n ≢ 0 = λ e. ne (omega arith) in ne_eqb r 0 ne ∙ sym (ne_eqb n 0 some)

pub once_is : (r n : ℕ) → r ≡ min n (2 ^ 64 - 1) → (r == 1) ≡ (n == 1)
once_is r n h = alike r n (λ e. omega arith) (λ e. omega arith)

pub one_of : (n : ℕ) → (n == 1) ≡ true → n ≡ 1
one_of n h = by (cases_eq n 1)
  where
    by : (n ≡ 1) ⊎ (n ≢ 1) → n ≡ 1
    by (inl e) = e
    by (inr ne) = let wrong : false ≡ true = sym (ne_eqb n 1 ne) ∙ h in absurd cc

-- of two numbers of which one alone is 1, the first is, or the second
pub second_one : (r m k : ℕ) → r ≡ min m (2 ^ 64 - 1) → (r == 1) ≡ false → m + k ≡ 1 → k ≡ 1
second_one r m k h other sum = by (cases_eq m 1)
  where
    by : (m ≡ 1) ⊎ (m ≢ 1) → k ≡ 1
    by (inl e) = let here : r ≡ 1 = omega arith in let wrong : true ≡ false = sym (eq-eqb r 1 here) ∙ other in absurd cc
    by (inr ne) = let none : m ≡ 0 = grind arith in omega arith
