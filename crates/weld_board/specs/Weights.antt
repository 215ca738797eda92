-- Lists and numbers, weighed: two lists have the same items, each as often, where they weigh the same however their items are weighed.
use Rattle.std.specs.Prelude.{ℕ, zero, suc, ◌+◌, List, [], ◌∷◌}

-- what the items of a list weigh together
abbrev pub weigh : {A : Type 0} → (A → ℕ) → List A → ℕ
weigh f [] = 0
weigh f (x ∷ xs) = f x + weigh f xs

-- what the numbers below a number weigh
abbrev pub weigh_below : (ℕ → ℕ) → ℕ → ℕ
weigh_below f zero = 0
weigh_below f (suc n) = weigh_below f n + f n

-- what the places below the words weigh; a word counts the places of the hand of its number, and the first number is k
abbrev pub weigh_words : (ℕ → ℕ → ℕ) → ℕ → List ℕ → ℕ
weigh_words f k [] = 0
weigh_words f k (w ∷ ws) = weigh_below (f k) w + weigh_words f (k + 1) ws
