-- Numbers of two fields, struct by struct.
use Rattle.std.specs.Prelude.{ℤ, List, [], ◌∷◌}

-- the first of the one list, the first of the other, and so on
abbrev pub interleaved : List ℤ → List ℤ → List ℤ
interleaved [] ys = []
interleaved (x ∷ xs) [] = []
interleaved (x ∷ xs) (y ∷ ys) = x ∷ y ∷ interleaved xs ys
