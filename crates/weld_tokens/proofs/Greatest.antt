-- The greatest number that passes a test.
use Rattle.std.proofs.Common.{◌≡◌, ℕ, zero, suc, ◌<◌, ◌≤◌, Bool, true, false, cond, inl, inr, refl, sym, ap, ◌∙◌, arith}
use Rattle.std.proofs.Math.Nat.{le-suc_iff}
use Rattle.weld_tokens.specs.Tokens.{greatest}

pub greatest-at : (p : ℕ → Bool) (k n : ℕ) → n ≤ k → (0 < n → p n ≡ true) → ((m : ℕ) → n < m → m ≤ k → p m ≡ false) → greatest p k ≡ n
greatest-at p zero n h here above = omega arith
greatest-at p (suc k) n h here above =
    let step : (b : Bool) → p (suc k) ≡ b → cond b (suc k) (greatest p k) ≡ n =
    λ b. elim b as (λ b. p (suc k) ≡ b → cond b (suc k) (greatest p k) ≡ n) [
      | true ↦ λ e.
          let no : n < suc k → ⊥ = λ below. let bad : true ≡ false = sym e ∙ above (suc k) below (omega arith) in cc in
          omega (arith, no)
      | false ↦ λ e.
          let ne : n ≡ suc k → ⊥ = λ same. let there : p n ≡ true = here (omega arith) in let bad : true ≡ false = sym there ∙ ap p same ∙ e in cc in
          greatest-at p k n (omega (arith, ne)) here (λ m low high. above m low (omega arith))
    ] in
    step (p (suc k)) refl

-- what passes is not above it
pub greatest-max : (p : ℕ → Bool) (k m : ℕ) → greatest p k < m → m ≤ k → p m ≡ false
greatest-max p zero m low high = absurd (omega arith)
greatest-max p (suc k) m low high =
    let step : (b : Bool) → p (suc k) ≡ b → cond b (suc k) (greatest p k) < m → p m ≡ false =
    λ b. elim b as (λ b. p (suc k) ≡ b → cond b (suc k) (greatest p k) < m → p m ≡ false) [
      | true ↦ λ e below. absurd (omega arith)
      | false ↦ λ e below.
          elim (le-suc_iff.0 high) [
            | inl less ↦ greatest-max p k m below less
            | inr same ↦ ap p same ∙ e
          ]
    ] in
    step (p (suc k)) refl low

-- it passes, where it is not 0
pub greatest-passes : (p : ℕ → Bool) (k : ℕ) → 0 < greatest p k → p (greatest p k) ≡ true
greatest-passes p zero h = absurd (omega arith)
greatest-passes p (suc k) h =
    let step : (b : Bool) → p (suc k) ≡ b → 0 < cond b (suc k) (greatest p k) → p (cond b (suc k) (greatest p k)) ≡ true =
    λ b. elim b as (λ b. p (suc k) ≡ b → 0 < cond b (suc k) (greatest p k) → p (cond b (suc k) (greatest p k)) ≡ true) [
      | true ↦ λ e some. e
      | false ↦ λ e some. greatest-passes p k some
    ] in
    step (p (suc k)) refl h

pub greatest-le : (p : ℕ → Bool) (k : ℕ) → greatest p k ≤ k
greatest-le p zero = omega arith
greatest-le p (suc k) =
    elim (p (suc k)) as (λ b. cond b (suc k) (greatest p k) ≤ suc k) [
      | true ↦ omega arith
      | false ↦ let h = greatest-le p k in omega arith
    ]
