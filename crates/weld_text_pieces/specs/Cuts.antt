-- Text that is cut at commas into pieces.
use Rattle.std.specs.Prelude.{◌++◌, ℕ, List, [], ◌∷◌}

-- the pieces, with a comma before each
abbrev pub after_commas : List (List ℕ) → List ℕ
after_commas [] = []
after_commas (piece ∷ pieces) = 44 ∷ (piece ++ after_commas pieces)

-- the pieces, with a comma between each two
abbrev pub with_commas : List (List ℕ) → List ℕ
with_commas [] = []
with_commas (piece ∷ pieces) = piece ++ after_commas pieces
