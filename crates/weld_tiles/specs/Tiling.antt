-- How the rows of a loop are cut into tiles.
use Rattle.std.specs.Prelude.{◌≡◌, ℕ, ◌+◌, ◌-◌, ◌/◌, ◌<◌, ◌≤◌, List, [], ◌∷◌, ◌++◌, length}
use Rattle.weld_tiles.specs.declared.tile.Tile.{Tile}

-- the middle of a range
abbrev pub middle : ℕ → ℕ → ℕ
middle lo hi = lo + (hi - lo) / 2

-- a range of rows, from the first up to, not including, the second, cut into ranges: into none where it is empty; it stays whole where it has no more rows than the cut; else its halves are cut so
pub data Halves (cut : ℕ) : ℕ → ℕ → List (ℕ × ℕ) → Type 0 where
  empty : (lo hi : ℕ) → lo ≡ hi → Halves cut lo hi []
  whole : (lo hi : ℕ) → lo < hi → hi - lo ≤ cut → Halves cut lo hi ((lo, hi) ∷ [])
  halved : (lo hi : ℕ) (first second : List (ℕ × ℕ)) → cut < hi - lo
      → Halves cut lo (middle lo hi) first → Halves cut (middle lo hi) hi second → Halves cut lo hi (first ++ second)

-- tiles of these ranges, numbered from a number on
abbrev pub numbered : ℕ → List (ℕ × ℕ) → List Tile
numbered n [] = []
numbered n (r ∷ rs) = record { number = n; lo = r.0; hi = r.1 } ∷ numbered (n + 1) rs

-- tiles behind those that were there: their numbers go on, their ranges are those that the rows are cut into
pub record AddsHalves (cut lo hi : ℕ) (old new : List Tile) : Type 0 where
  pub ranges : List (ℕ × ℕ)
  pub cuts : Halves cut lo hi ranges
  pub behind : new ≡ old ++ numbered (length old) ranges

-- the tile has this number, begins at this row and isn't empty
abbrev pub Follows : Tile → ℕ → ℕ → Type 0
Follows t n lo = (t.number ≡ n) × (t.lo ≡ lo) × (lo < t.hi)

-- numbered from a number on, none is empty, each begins where the one before ends, and together they run from a row to a row
abbrev pub IsRun : ℕ → ℕ → ℕ → List Tile → Type 0
IsRun n lo hi [] = lo ≡ hi
IsRun n lo hi (t ∷ ts) = Follows t n lo × IsRun (n + 1) t.hi hi ts

-- numbered from 0, from row 0 to the last
abbrev pub IsTiling : List Tile → ℕ → Type 0
IsTiling tiles rows = IsRun 0 0 rows tiles
