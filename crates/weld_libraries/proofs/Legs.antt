-- Legs that are names.
use Rattle.std.proofs.Common.{◌≡◌, ℕ, List, [], ◌∷◌, map, refl, ap}
use Rattle.weld_tree.specs.ExprTree.{pack_legs, whole, more_legs}
use Rattle.weld_calls.specs.CallPrograms.{use_of, legs_of}

pub legs_are : (ss : List ℕ) → pack_legs (map (λ s. whole (use_of s)) ss) ≡ legs_of ss
legs_are [] = refl
legs_are (s ∷ ss) = ap (more_legs (whole (use_of s))) (legs_are ss)
