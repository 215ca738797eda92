-- Arguments that are of the types of their places.
use Rattle.std.specs.Prelude.{List, [], ◌∷◌}
use Rattle.weld_data.specs.Value.{Value}
use Rattle.weld_tree.specs.TypeTree.{TypeTree}
use Rattle.weld_tree.specs.HasValue.{HasValue}

-- there are as many values as types, and each is of the type of its place
abbrev pub AreOf : List TypeTree → List Value → Type 0
AreOf [] [] = Unit {0}
AreOf [] (v ∷ vs) = ⊥
AreOf (t ∷ ts) [] = ⊥
AreOf (t ∷ ts) (v ∷ vs) = HasValue t v × AreOf ts vs
