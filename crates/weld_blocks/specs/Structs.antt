-- Structs of numbers, one for each row of a block, the numbers of each field being together.
use Rattle.std.specs.Prelude.{◌≡◌, ℕ, ◌<◌, ◌∷◌, [], List}
use Rattle.weld_data.specs.Value.{Value}
use Rattle.weld_tree.specs.ExprTree.{ExprTree, many, Many, make_vec, make_struct}
use Rattle.weld_blocks.specs.Numbers.{count_of, number_at, AreGiven, IsChosen}
use Rattle.weld_blocks.specs.Scope.{struct_at}
use Rattle.weld_blocks.specs.declared.numbers.Numbers.{Numbers}

-- each field has a number at the place
abbrev pub AreLonger : List Numbers → ℕ → Type 0
AreLonger [] j = Unit {0}
AreLonger (c ∷ cs) j = (j < count_of c) × AreLonger cs j

-- each field has so many numbers
abbrev pub AreCounted : List Numbers → ℕ → Type 0
AreCounted [] count = Unit {0}
AreCounted (c ∷ cs) count = (count_of c ≡ count) × AreCounted cs count

-- there are so many of each, and the struct at each place is what it must be
pub record AreStructs (gives : ℕ → Value → Type 0) (cs : List Numbers) (count : ℕ) : Type 0 where
  pub long : AreCounted cs count
  pub each : (j : ℕ) → j < count → gives j (struct_at cs j)

-- each field is that of one of two structs at each place, as truth values say
abbrev pub AreChosenFields : Numbers → List Numbers → List Numbers → List Numbers → ℕ → Type 0
AreChosenFields t [] [] [] count = Unit {0}
AreChosenFields t [] [] (c ∷ cs) count = ⊥
AreChosenFields t [] (y ∷ ys) [] count = ⊥
AreChosenFields t [] (y ∷ ys) (c ∷ cs) count = ⊥
AreChosenFields t (x ∷ xs) [] [] count = ⊥
AreChosenFields t (x ∷ xs) [] (c ∷ cs) count = ⊥
AreChosenFields t (x ∷ xs) (y ∷ ys) [] count = ⊥
AreChosenFields t (x ∷ xs) (y ∷ ys) (c ∷ cs) count = AreGiven (λ j v. IsChosen (number_at t j) (number_at x j) (number_at y j) v) c count × AreChosenFields t xs ys cs count

-- the form is that of a struct
abbrev pub IsStructForm : Many → Type 0
IsStructForm make_vec = ⊥
IsStructForm make_struct = Unit {0}

-- it is a struct
abbrev pub IsStructTree : ExprTree → Type 0
IsStructTree (many a o es) = IsStructForm o
IsStructTree _ = ⊥
