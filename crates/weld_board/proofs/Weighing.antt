-- Lists, numbers and words weighed.
use Rattle.std.proofs.Common.{◌≡◌, ℕ, zero, suc, ◌+◌, ◌<◌, ◌≤◌, List, [], ◌∷◌, ◌++◌, length, get_or, set, refl, ap, sym, subst, add-one, arith}
use mathlib.Core.Option.{some, some-injective, some-ne-none}
use lib.ListN.{get_elem?}
use Rattle.weld_board.specs.Weights.{weigh, weigh_below, weigh_words}
use Rattle.weld_board.specs.Rule.{Each}

module _ {A : Type 0} where
  pub weigh-append : (f : A → ℕ) (xs ys : List A) → weigh f (xs ++ ys) ≡ weigh f xs + weigh f ys
  weigh-append f [] ys = omega arith
  weigh-append f (x ∷ xs) ys = let rest = weigh-append f xs ys in omega arith

  -- one item is put in another's place
  pub weigh_set : (f : A → ℕ) (xs : List A) (i : ℕ) (x y : A) → get_elem? xs i ≡ some x → weigh f (set xs i y) + f x ≡ weigh f xs + f y
  weigh_set f [] i x y at = absurd (some-ne-none x (sym at))
  weigh_set f (z ∷ zs) zero x y at = let same : f z ≡ f x = ap f (some-injective z x at) in omega arith
  weigh_set f (z ∷ zs) (suc i) x y at = let rest = weigh_set f zs i x y at in omega arith

  pub weigh_at : (f : A → ℕ) (xs : List A) (i : ℕ) (x : A) → get_elem? xs i ≡ some x → f x ≤ weigh f xs
  weigh_at f [] i x at = absurd (some-ne-none x (sym at))
  weigh_at f (z ∷ zs) zero x at = let same : f z ≡ f x = ap f (some-injective z x at) in omega arith
  weigh_at f (z ∷ zs) (suc i) x at = let rest = weigh_at f zs i x at in omega arith

  pub weigh_each : (f g : A → ℕ) (xs : List A) → Each (λ x. f x ≤ g x) xs → weigh f xs ≤ weigh g xs
  weigh_each f g [] all = omega arith
  weigh_each f g (x ∷ xs) all = let here = all.0 in let rest = weigh_each f g xs all.1 in omega arith

  -- what weighs nothing in one way weighs nothing in another
  pub weigh_none : (f g : A → ℕ) → ((x : A) → f x ≡ 0 → g x ≡ 0) → (xs : List A) → weigh f xs ≡ 0 → weigh g xs ≡ 0
  weigh_none f g so [] none = refl
  weigh_none f g so (x ∷ xs) none =
      let here = so x (omega arith) in
      let rest = weigh_none f g so xs (omega arith) in
      omega arith

  pub weigh_same : (f g : A → ℕ) → ((x : A) → f x ≡ g x) → (xs : List A) → weigh f xs ≡ weigh g xs
  weigh_same f g so [] = refl
  weigh_same f g so (x ∷ xs) = let here = so x in let rest = weigh_same f g so xs in omega arith

  pub weigh_ones : (xs : List A) → weigh (λ x. 1) xs ≡ length xs
  weigh_ones [] = refl
  weigh_ones (x ∷ xs) = let rest = weigh_ones xs in omega arith

  -- ---- each item

  pub each_set : (P : A → Type 0) (xs : List A) (i : ℕ) (y : A) → P y → Each P xs → Each P (set xs i y)
  each_set P [] i y p all = tt
  each_set P (x ∷ xs) zero y p all = (p, all.1)
  each_set P (x ∷ xs) (suc i) y p all = (all.0, each_set P xs i y p all.1)

  pub each_at : (P : A → Type 0) (xs : List A) (i : ℕ) (x : A) → get_elem? xs i ≡ some x → Each P xs → P x
  each_at P [] i x at all = absurd (some-ne-none x (sym at))
  each_at P (z ∷ zs) zero x at all = subst P (some-injective z x at) all.0
  each_at P (z ∷ zs) (suc i) x at all = each_at P zs i x at all.1

  pub each_append : (P : A → Type 0) (xs ys : List A) → Each P xs → Each P ys → Each P (xs ++ ys)
  each_append P [] ys all more = more
  each_append P (x ∷ xs) ys all more = (all.0, each_append P xs ys all.1 more)

  pub each_weaker : (P Q : A → Type 0) → ((x : A) → P x → Q x) → (xs : List A) → Each P xs → Each Q xs
  each_weaker P Q so [] all = tt
  each_weaker P Q so (x ∷ xs) all = (so x all.0, each_weaker P Q so xs all.1)

-- ---- numbers and words

pub below_next : (f : ℕ → ℕ) (n : ℕ) → weigh_below f (n + 1) ≡ weigh_below f n + f n
below_next f n = ap (weigh_below f) (add-one n)

pub below_ones : (n : ℕ) → weigh_below (λ k. 1) n ≡ n
below_ones zero = refl
below_ones (suc n) = let rest = below_ones n in omega arith

pub below_same : (f g : ℕ → ℕ) → ((k : ℕ) → f k ≡ g k) → (n : ℕ) → weigh_below f n ≡ weigh_below g n
below_same f g so zero = refl
below_same f g so (suc n) = let rest = below_same f g so n in let here = so n in omega arith

pub words_set : (f : ℕ → ℕ → ℕ) (k : ℕ) (ws : List ℕ) (i n : ℕ) → i < length ws → n ≡ get_or ws i 0 → weigh_words f k (set ws i (n + 1)) ≡ weigh_words f k ws + f (k + i) n
words_set f k [] i n low is = absurd (omega arith)
words_set f k (w ∷ ws) zero n low is =
    let more : weigh_below (f k) (n + 1) ≡ weigh_below (f k) n + f k n = below_next (f k) n in
    let same : weigh_below (f k) n ≡ weigh_below (f k) w = ap (weigh_below (f k)) is in
    let here : f (k + 0) n ≡ f k n = (let none : k + 0 ≡ k = omega arith in ap (λ m. f m n) none) in
    omega arith
words_set f k (w ∷ ws) (suc i) n low is =
    let rest = words_set f (k + 1) ws i n (omega arith) is in
    let here : f (k + 1 + i) n ≡ f (k + suc i) n = (let one : k + 1 + i ≡ k + suc i = omega arith in ap (λ m. f m n) one) in
    omega arith

pub words_at : (f : ℕ → ℕ → ℕ) (k : ℕ) (ws : List ℕ) (i : ℕ) → i < length ws → weigh_below (f (k + i)) (get_or ws i 0) ≤ weigh_words f k ws
words_at f k [] i low = absurd (omega arith)
words_at f k (w ∷ ws) zero low =
    let here : weigh_below (f (k + 0)) w ≡ weigh_below (f k) w = (let none : k + 0 ≡ k = omega arith in ap (λ m. weigh_below (f m) w) none) in
    omega arith
words_at f k (w ∷ ws) (suc i) low =
    let rest = words_at f (k + 1) ws i (omega arith) in
    let here : weigh_below (f (k + 1 + i)) (get_or ws i 0) ≡ weigh_below (f (k + suc i)) (get_or ws i 0) = (let one : k + 1 + i ≡ k + suc i = omega arith in ap (λ m. weigh_below (f m) (get_or ws i 0)) one) in
    omega arith
