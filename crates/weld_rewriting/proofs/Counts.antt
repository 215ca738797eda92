-- How often numbers stand in lists.
use Rattle.std.proofs.Common.{◌≡◌, ◌≢◌, ℕ, suc, ◌+◌, ◌≤◌, List, [], ◌∷◌, ◌++◌, length, refl, sym, subst, inl, inr, ◌⊎◌, arith, eq-eqb, ne_eqb, length-append}
use Rattle.std.proofs.lemmas.Bool.{cases_eq}
use Rattle.weld_tree.specs.Program.{IsOneOf, AreDistinct}
use Rattle.weld_rewriting.specs.Within.{times}

pub times-append : (xs ys : List ℕ) (s : ℕ) → times (xs ++ ys) s ≡ times xs s + times ys s
times-append [] ys s = omega arith
times-append (x ∷ xs) ys s = omega (arith, times-append xs ys s)

pub append_times : (xs ys zs ws : List ℕ) (s : ℕ) → times xs s ≤ times zs s → times ys s ≤ times ws s → times (xs ++ ys) s ≤ times (zs ++ ws) s
append_times xs ys zs ws s h k = omega (arith, times-append xs ys s, times-append zs ws s, h, k)

pub cons_times : (t : ℕ) (xs ys : List ℕ) (s : ℕ) → times xs s ≤ times ys s → times (t ∷ xs) s ≤ times (t ∷ ys) s
cons_times t xs ys s h = omega (arith, h)

pub append_lengths : (xs ys zs ws : List ℕ) → length xs ≤ length zs → length ys ≤ length ws → length (xs ++ ys) ≤ length (zs ++ ws)
append_lengths xs ys zs ws h k = omega (arith, length-append xs ys, length-append zs ws, h, k)

pub cons_lengths : (t : ℕ) (xs ys : List ℕ) → length xs ≤ length ys → length (t ∷ xs) ≤ length (t ∷ ys)
cons_lengths t xs ys h = omega (arith, h)

-- behind the three binders of a loop
pub loop_times : (t u v : ℕ) (xs ys : List ℕ) (s : ℕ) → times xs s ≤ times ys s → times (t ∷ u ∷ v ∷ xs) s ≤ times (t ∷ u ∷ v ∷ ys) s
loop_times t u v xs ys s h = cons_times t (u ∷ v ∷ xs) (u ∷ v ∷ ys) s (cons_times u (v ∷ xs) (v ∷ ys) s (cons_times v xs ys s h))

pub loop_lengths : (t u v : ℕ) (xs ys : List ℕ) → length xs ≤ length ys → length (t ∷ u ∷ v ∷ xs) ≤ length (t ∷ u ∷ v ∷ ys)
loop_lengths t u v xs ys h = omega (arith, h)

-- a number is one of a list where it stands in it at least once
pub times_here : (t : ℕ) (xs : List ℕ) → times (t ∷ xs) t ≡ suc (times xs t)
times_here t xs = rw (eq-eqb t t refl) (omega arith)

pub times_there : (t s : ℕ) (xs : List ℕ) → s ≢ t → times (t ∷ xs) s ≡ times xs s
times_there t s xs ne = rw (ne_eqb s t ne) (omega arith)

pub one_of_times : (xs : List ℕ) (s : ℕ) → IsOneOf xs s → 1 ≤ times xs s
one_of_times [] s h = absurd h
one_of_times (t ∷ xs) s (inl e) = subst (λ u. 1 ≤ times (u ∷ xs) s) e (omega (arith, times_here s xs))
one_of_times (t ∷ xs) s (inr h) = omega (arith, one_of_times xs s h)

pub times_one_of : (xs : List ℕ) (s : ℕ) → 1 ≤ times xs s → IsOneOf xs s
times_one_of [] s h = absurd (omega (arith, h))
times_one_of (t ∷ xs) s h = by (cases_eq s t) (times_one_of xs s)
  where
    by : (s ≡ t) ⊎ (s ≢ t) → (1 ≤ times xs s → IsOneOf xs s) → (s ≡ t) ⊎ IsOneOf xs s
    by (inl e) k = inl e
    by (inr ne) k = inr (k (omega (arith, h, times_there t s xs ne)))

some_or_none : (m : ℕ) → (1 ≤ m) ⊎ (m ≤ 0)
some_or_none m = grind arith

none_stands : (xs : List ℕ) (t : ℕ) → ¬ (IsOneOf xs t) → times xs t ≤ 0
none_stands xs t h = by (some_or_none (times xs t))
  where
    by : (1 ≤ times xs t) ⊎ (times xs t ≤ 0) → times xs t ≤ 0
    by (inl k) = absurd (h (times_one_of xs t k))
    by (inr k) = k

-- no number stands twice where each stands at most once
pub distinct_times : (xs : List ℕ) → AreDistinct xs → (s : ℕ) → times xs s ≤ 1
distinct_times [] h s = omega arith
distinct_times (t ∷ xs) h s = by (cases_eq s t) (distinct_times xs h.1 s)
  where
    by : (s ≡ t) ⊎ (s ≢ t) → times xs s ≤ 1 → times (t ∷ xs) s ≤ 1
    by (inl e) k = subst (λ u. times (t ∷ xs) u ≤ 1) (sym e) (omega (arith, times_here t xs, none_stands xs t h.0))
    by (inr ne) k = omega (arith, k, times_there t s xs ne)

pub times_distinct : (xs : List ℕ) → ((s : ℕ) → times xs s ≤ 1) → AreDistinct xs
times_distinct [] h = tt
times_distinct (t ∷ xs) h = (
  (λ k. absurd (omega (arith, h t, times_here t xs, one_of_times xs t k))),
  times_distinct xs (λ s. omega (arith, h s, at_most s)),
)
  where
    at_most : (s : ℕ) → times xs s ≤ times (t ∷ xs) s
    at_most s = omega arith
