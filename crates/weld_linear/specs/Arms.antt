-- The rule on the arms of an `if`, by whatever builders stand before it.
use Rattle.std.specs.Prelude.{◌≡◌, ℕ}
use Rattle.weld_tree.specs.ExprTree.{ExprTree}
use Rattle.weld_meaning.specs.Environment.{Named}
use Rattle.weld_meaning.specs.Origin.{Origin, origin_of_name, origin, by_name}
use Rattle.weld_meaning.specs.Linear.{IsNotMade}

-- the same names with builders in the same places, each with some label, and none made in the expression itself
pub record Labels (g h : Named Origin) : Type 0 where
  pub same_places : by_name h ≡ by_name g
  pub labelled : (s : ℕ) → IsNotMade (origin_of_name s h)

-- the arms answer builders of one origin, path by path; a builder made in an arm has no other origin than itself, so there is none
pub record ArmsShare (e f : ExprTree) (h : Named Origin) : Type 0 where
  pub same : origin e h ≡ origin f h
  pub not_made : IsNotMade (origin e h)
