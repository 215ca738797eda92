-- The weight of an expression: what passes take off it.
use Rattle.std.specs.Prelude.{ℕ, ◌+◌}
use Rattle.weld_tree.specs.ExprTree.{ExprTree, leaf, one, two, three, many, let_in, loop, iterate, ExprTrees, no_exprs, more_exprs, LegTree, whole, strided, LegTrees, no_legs, more_legs, Three, if_else, select, slice}

abbrev pub choice_weight : Three → ℕ
choice_weight if_else = 1
choice_weight select = 0
choice_weight slice = 0

abbrev mutual
  -- a `let` weighs 1, an `if` 1, a leg 2, a loop 8: so that each pass of this project makes lighter
  -- what it rewrites
  pub weight : ExprTree → ℕ
  weight (leaf a l) = 0
  weight (one a o e) = weight e
  weight (two a o e f) = weight e + weight f
  weight (three a o c e f) = choice_weight o + weight c + weight e + weight f
  weight (many a o es) = weight_in es
  weight (let_in a b e f) = 1 + weight e + weight f
  weight (loop a ls e b n x f) = 8 + weight_in_legs ls + weight e + weight f
  weight (iterate a e b f) = weight e + weight f

  pub weight_in : ExprTrees → ℕ
  weight_in no_exprs = 0
  weight_in (more_exprs e es) = weight e + weight_in es

  pub weight_in_leg : LegTree → ℕ
  weight_in_leg (whole e) = weight e
  weight_in_leg (strided e f h i) = weight e + weight f + weight h + weight i

  pub weight_in_legs : LegTrees → ℕ
  weight_in_legs no_legs = 0
  weight_in_legs (more_legs l ls) = 2 + weight_in_leg l + weight_in_legs ls
