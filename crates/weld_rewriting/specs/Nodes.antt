-- What holds of each node of an expression.
use Rattle.weld_tree.specs.ExprTree.{ExprTree, leaf, one, two, three, many, let_in, loop, iterate, ExprTrees, no_exprs, more_exprs, LegTree, whole, strided, LegTrees, no_legs, more_legs}

abbrev mutual
  -- it holds of the expression and of each expression within it
  pub EachNode : (ExprTree → Type 0) → ExprTree → Type 0
  EachNode P (leaf a l) = P (leaf a l)
  EachNode P (one a o e) = EachNode P e × P (one a o e)
  EachNode P (two a o e f) = EachNode P e × EachNode P f × P (two a o e f)
  EachNode P (three a o c e f) = EachNode P c × EachNode P e × EachNode P f × P (three a o c e f)
  EachNode P (many a o es) = EachOfAll P es × P (many a o es)
  EachNode P (let_in a b e f) = EachNode P e × EachNode P f × P (let_in a b e f)
  EachNode P (loop a ls e b n x f) = EachOfLegs P ls × EachNode P e × EachNode P f × P (loop a ls e b n x f)
  EachNode P (iterate a e b f) = EachNode P e × EachNode P f × P (iterate a e b f)

  pub EachOfAll : (ExprTree → Type 0) → ExprTrees → Type 0
  EachOfAll P no_exprs = Unit {0}
  EachOfAll P (more_exprs e es) = EachNode P e × EachOfAll P es

  pub EachOfLeg : (ExprTree → Type 0) → LegTree → Type 0
  EachOfLeg P (whole e) = EachNode P e
  EachOfLeg P (strided e f h i) = EachNode P e × EachNode P f × EachNode P h × EachNode P i

  pub EachOfLegs : (ExprTree → Type 0) → LegTrees → Type 0
  EachOfLegs P no_legs = Unit {0}
  EachOfLegs P (more_legs l ls) = EachOfLeg P l × EachOfLegs P ls
