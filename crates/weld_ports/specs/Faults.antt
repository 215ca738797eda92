-- What the failures of a source or a sink say.
use Rattle.std.specs.Prelude.{◌≡◌, ℕ, ◌+◌, ◌-◌, ◌^◌, ◌≤◌, List, Option, length, min, IfSome}

-- The count of failures rose. One that stands at its type's last value counts as risen.
abbrev pub Rises : ℕ → ℕ → Type 0
Rises old new = min (old + 1) (2 ^ 64 - 1) ≤ new

-- the last flush found all that is held, where both are told
abbrev pub IsSettled : Option (List ℕ) → Option ℕ → Type 0
IsSettled held settled = IfSome held (λ bytes. IfSome settled (λ count. count ≡ length bytes))
