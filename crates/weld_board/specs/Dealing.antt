-- How tiles are dealt to the hands of workers.
use Rattle.std.specs.Prelude.{ℕ, zero, suc, ◌+◌, ◌-◌, ◌*◌, ◌/◌, List, [], ◌∷◌, ◌++◌, length, take, drop}

-- where hand k begins, of so many tiles dealt to so many workers
abbrev pub start : ℕ → ℕ → ℕ → ℕ
start tiles workers k = k * tiles / workers

-- how many tiles hand k has
abbrev pub size : ℕ → ℕ → ℕ → ℕ
size tiles workers k = start tiles workers (k + 1) - start tiles workers k

module _ {A : Type 0} where
  -- the tiles of hand k, in order
  abbrev pub hand : List A → ℕ → ℕ → List A
  hand tiles workers k = take (size (length tiles) workers k) (drop (start (length tiles) workers k) tiles)

  -- the hands of the numbers below k, in order
  abbrev pub hands_below : List A → ℕ → ℕ → List (List A)
  hands_below tiles workers zero = []
  hands_below tiles workers (suc k) = hands_below tiles workers k ++ hand tiles workers k ∷ []

  -- lists one behind another
  abbrev pub joined : List (List A) → List A
  joined [] = []
  joined (xs ∷ xss) = xs ++ joined xss
