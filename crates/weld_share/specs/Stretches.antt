-- Neighbouring tiles that are run into one part.
use Rattle.std.specs.Prelude.{◌≡◌, ◌≤◌, ◌+◌, ℕ, List, [], ◌∷◌}
use Rattle.weld_tiles.specs.Tiling.{Follows, IsRun}
use Rattle.weld_share.specs.declared.stretch.Stretch.{Stretch}

-- its tiles follow one another, and its rows are theirs
abbrev pub IsStretch : Stretch → Type 0
IsStretch s = (n : ℕ) × IsRun n s.whole.lo s.whole.hi s.tiles.now

-- and they are rows of a loop that has so many
abbrev pub IsStretchOf : ℕ → Stretch → Type 0
IsStretchOf rows s = IsStretch s × (s.whole.hi ≤ rows)

-- stretches that follow one another, numbered from a number on, from a row up to the last
abbrev pub AreStretches : ℕ → ℕ → ℕ → List Stretch → Type 0
AreStretches n lo rows [] = lo ≡ rows
AreStretches n lo rows (s ∷ ss) = Follows s.whole n lo × IsStretch s × AreStretches (n + 1) s.whole.hi rows ss
