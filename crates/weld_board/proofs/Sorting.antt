-- Spans whose jobs are the numbers below a number, each once, follow one another when they are sorted.
use Rattle.std.proofs.Common.{◌≡◌, ◌≢◌, ℕ, zero, suc, ◌+◌, ◌-◌, ◌<◌, ◌≤◌, cond, eqb, List, [], ◌∷◌, length, get_or, All, IsPermutation, refl, ap, sym, subst, arith}
use Rattle.std.specs.List.{sum_by}
use Rattle.std.specs.List.Sorted.{IsNonDecreasingBy}
use Rattle.std.proofs.lemmas.Bool.{eq-eqb, ne_eqb}
use Rattle.std.proofs.lemmas.List.Sums.{sum_by-append, sum_by-cons}
use Rattle.std.proofs.lemmas.List.Sorted.{All-permutation, sum_by-IsPermutation}
use Rattle.std.proofs.lemmas.List.Elements.{All-nil, All-cons, All-head, All-tail}
use mathlib.Core.Logic.{dite}
use native.Mathlib.Decide.{dec_lt, ℕ_discrete}
use Rattle.weld_board.specs.Weights.{weigh_below}
use Rattle.weld_board.specs.Sitting.{numbers}
use Rattle.weld_board.specs.declared.workers.span.Span.{Span}
use Rattle.weld_board.specs.Spans.{numbers_from, jobs_of, jobs_in, IsMade, AreMade, AreSpans}

-- ---- what numbers weigh

numbers_weigh : (g : ℕ → ℕ) (n : ℕ) → sum_by g (numbers n) ≡ weigh_below g n
numbers_weigh g zero = refl
numbers_weigh g (suc n) =
    let rest = numbers_weigh g n in
    let both = sum_by-append g (numbers n) (n ∷ []) in
    let one = sum_by-cons g n [] in
    let none : sum_by g [] ≡ 0 = refl in
    omega arith

from_weigh : (g : ℕ → ℕ) (first n : ℕ) → sum_by g (numbers_from first n) + weigh_below g first ≡ weigh_below g (first + n)
from_weigh g first zero = let none : first + 0 ≡ first = omega arith in let nil : sum_by g [] ≡ 0 = refl in omega (arith, ap (weigh_below g) none)
from_weigh g first (suc n) =
    let rest = from_weigh g first n in
    let both = sum_by-append g (numbers_from first n) ((first + n) ∷ []) in
    let one = sum_by-cons g (first + n) [] in
    let none : sum_by g [] ≡ 0 = refl in
    let next : weigh_below g (first + suc n) ≡ weigh_below g (first + n) + g (first + n) = (let e : first + suc n ≡ suc (first + n) = omega arith in ap (weigh_below g) e) in
    omega arith

below_one : (n : ℕ) → weigh_below (λ y. 1) n ≡ n
below_one zero = refl
below_one (suc n) = let rest = below_one n in omega arith

-- 1 for the number x
abbrev is : ℕ → ℕ → ℕ
is x y = cond {A = ℕ} (eqb y x) 1 0

is_self : (x : ℕ) → is x x ≡ 1
is_self x = ap (λ b. cond {A = ℕ} b 1 0) (eq-eqb x x refl)

is_other : (x y : ℕ) → y ≢ x → is x y ≡ 0
is_other x y n = ap (λ b. cond {A = ℕ} b 1 0) (ne_eqb y x n)

below_high : (x n : ℕ) → n ≤ x → weigh_below (is x) n ≡ 0
below_high x zero low = refl
below_high x (suc n) low = let rest = below_high x n (omega arith) in let here = is_other x n (λ e. omega arith) in omega arith

below_low : (x n : ℕ) → x < n → weigh_below (is x) n ≡ 1
below_low x zero low = absurd (omega arith)
below_low x (suc n) low = dite (ℕ_discrete x n)
    (λ e. let rest = below_high x n (omega arith) in let here : is x n ≡ 1 = subst (λ m. is m n ≡ 1) (sym e) (is_self n) in omega arith)
    (λ ne. let rest = below_low x n (omega arith) in let here = is_other x n (λ e. ne (sym e)) in omega arith)

module _ {P : Type 0} where
  span_weight : (ℕ → ℕ) → Span P → ℕ
  span_weight g s = sum_by g (jobs_of s)

  span_weighs : (g : ℕ → ℕ) (s : Span P) → s.first ≤ s.next → span_weight g s + weigh_below g s.first ≡ weigh_below g s.next
  unfolding span_weight
  span_weighs g s low = let all = from_weigh g s.first (s.next - s.first) in let e : s.first + (s.next - s.first) ≡ s.next = omega arith in omega (arith, ap (weigh_below g) e)

  spans_weigh : (g : ℕ → ℕ) (xs : List (Span P)) → sum_by g (jobs_in xs) ≡ sum_by (span_weight g) xs
  unfolding span_weight
  spans_weigh g [] = refl
  spans_weigh g (x ∷ xs) =
      let rest = spans_weigh g xs in
      let both = sum_by-append g (jobs_of x) (jobs_in xs) in
      let one = sum_by-cons (λ (s : Span P). sum_by g (jobs_of s)) x xs in
      omega arith

  module _ (made : ℕ → ℕ → P → Type 0) where
    to_all : (xs : List (Span P)) → AreMade made xs → All (IsMade made) xs
    to_all [] m = All-nil (IsMade made)
    to_all (x ∷ xs) m = All-cons (IsMade made) x xs m.0 (to_all xs m.1)

    from_all : (xs : List (Span P)) → All (IsMade made) xs → AreMade made xs
    from_all [] m = tt
    from_all (x ∷ xs) m = (All-head (IsMade made) x xs m, from_all xs (All-tail (IsMade made) x xs m))

    pub made_permuted : (xs ys : List (Span P)) → IsPermutation xs ys → AreMade made xs → AreMade made ys
    made_permuted xs ys p m = from_all ys (All-permutation (IsMade made) xs ys p (to_all xs m))

    -- no span that begins later has the number
    none_there : (k : ℕ) (xs : List (Span P)) → AreMade made xs → ((j : ℕ) (d : Span P) → j < length xs → k < (get_or xs j d).first) → sum_by (span_weight (is k)) xs ≡ 0
    none_there k [] m later = refl
    none_there k (x ∷ xs) m later =
        let here : k < x.first = later 0 x (omega arith) in
        let low = m.0.0 in
        let one = span_weighs (is k) x (omega arith) in
        let to = below_low k x.first here in
        let end = below_low k x.next (omega arith) in
        let rest = none_there k xs m.1 (λ j d l. later (suc j) d (omega arith)) in
        let cons = sum_by-cons (span_weight (is k)) x xs in
        omega arith

    follows : (n k : ℕ) (xs : List (Span P)) → AreMade made xs → IsNonDecreasingBy (λ (s : Span P). s.first) xs → ((g : ℕ → ℕ) → sum_by (span_weight g) xs + weigh_below g k ≡ weigh_below g n) → AreSpans made k n xs
    follows n k [] m up all =
        let one = all (λ y. 1) in
        let a = below_one k in
        let b = below_one n in
        let nil : sum_by (span_weight (λ y. 1)) [] ≡ 0 = refl in
        omega arith
    follows n k (s ∷ ss) m up all =
        let low = m.0.0 in
        -- its first number is there once
        let cons = sum_by-cons (span_weight (is s.first)) s ss in
        let own = span_weighs (is s.first) s (omega arith) in
        let before = below_high s.first s.first (omega arith) in
        let behind = below_low s.first s.next low in
        let whole = all (is s.first) in
        let within : s.first < n = dite (dec_lt s.first n) (λ l. l) (λ h. let none = below_high s.first n (omega arith) in absurd (omega arith)) in
        let once = below_low s.first n within in
        let not_late : k ≤ s.first = dite (dec_lt s.first k) (λ l. let there = below_low s.first k l in absurd (omega arith)) (λ h. omega arith) in
        -- and no number before it is missing
        let not_early : s.first ≤ k = dite (dec_lt k s.first)
        (λ l.
        let none : sum_by (span_weight (is k)) (s ∷ ss) ≡ 0 = none_there k (s ∷ ss) m (λ j d h. let more : s.first ≤ (get_or (s ∷ ss) j d).first = up 0 j d (omega arith) h in omega arith) in
        let a = all (is k) in
        let b = below_high k k (omega arith) in
        let c = below_low k n (omega arith) in
        absurd (omega arith))
        (λ h. omega arith) in
        let same : s.first ≡ k = omega arith in (
          same,
          m.0,
          follows n s.next ss m.1 (λ i j d le l. up (suc i) (suc j) d (omega arith) (omega arith)) (λ g.
              let a = all g in
              let b = sum_by-cons (span_weight g) s ss in
              let c = span_weighs g s (omega arith) in
              let e : weigh_below g s.first ≡ weigh_below g k = ap (weigh_below g) same in
              omega arith),
        )

    pub sorted_follow : (n : ℕ) (xs ys : List (Span P)) → AreMade made xs → IsPermutation (jobs_in xs) (numbers n) → IsPermutation xs ys → IsNonDecreasingBy (λ (s : Span P). s.first) ys → AreSpans made 0 n ys
    sorted_follow n xs ys m all p up = follows n 0 ys (made_permuted xs ys p m) up (λ g.
        let a = spans_weigh g xs in
        let b = sum_by-IsPermutation g (jobs_in xs) (numbers n) all in
        let c = sum_by-IsPermutation (span_weight g) xs ys p in
        let d = numbers_weigh g n in
        omega arith)
