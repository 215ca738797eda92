-- Numbers in their order.
use Rattle.std.specs.Prelude.{ℕ, zero, suc, List, [], ◌∷◌}

-- so many numbers from n on
abbrev pub count_from : ℕ → ℕ → List ℕ
count_from n zero = []
count_from n (suc k) = n ∷ count_from (suc n) k
