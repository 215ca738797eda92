-- Numbers that are written place by place.
use Rattle.std.proofs.Common.{◌≡◌, ◌≢◌, ℕ, ◌+◌, ◌<◌, ◌==◌, Bool, true, false, ℤ, pos, List, length, get_or, set, refl, sym, subst, below_more, get_or-set_other, get_or-set_same, arith}
use Rattle.std.proofs.lemmas.Bool.{eqb-true, eq-eqb}

-- what holds of each place below the one that is written, and of what is written, holds of each below the next
pub set_each : (P : ℕ → ℤ → Type 0) (xs : List ℤ) (i : ℕ) (x : ℤ) → i < length xs → P i x → ((j : ℕ) → j < i → P j (get_or xs j (pos 0))) → (j : ℕ) → j < i + 1 → P j (get_or (set xs i x) j (pos 0))
set_each P xs i x less p h =
    below_more (λ j. P j (get_or (set xs i x) j (pos 0))) i
    (λ k lt. let ne : k ≢ i = omega arith in subst (P k) (sym (get_or-set_other xs i k x (pos 0) ne)) (h k lt))
    (subst (P i) (sym (get_or-set_same xs i x (pos 0) less)) p)

-- what holds of all and of what is written holds of all
pub set_all : (Q : ℤ → Type 0) (xs : List ℤ) (i : ℕ) (x : ℤ) → i < length xs → Q x → ((j : ℕ) → Q (get_or xs j (pos 0))) → (j : ℕ) → Q (get_or (set xs i x) j (pos 0))
set_all Q xs i x less p h j = by (j == i) refl
  where
    by : (b : Bool) → (j == i) ≡ b → Q (get_or (set xs i x) j (pos 0))
    by true e = let q = eqb-true j i e in subst (λ k. Q (get_or (set xs i x) k (pos 0))) (sym q) (subst Q (sym (get_or-set_same xs i x (pos 0) less)) p)
    by false e = subst Q (sym (get_or-set_other xs i j x (pos 0) (λ q. differ q))) (h j)
      where
        differ : j ≡ i → ⊥
        differ q = let t = eq-eqb j i q in let no : ⊥ = cc in no
