-- How many `let` nodes a program may have.
use Rattle.std.specs.Prelude.{ℕ, ◌+◌, Bool, nat_lt}
use Rattle.weld_tree.specs.ExprTree.{ExprTree, leaf, one, two, three, many, let_in, loop, iterate, ExprTrees, no_exprs, more_exprs, LegTree, whole, strided, LegTrees, no_legs, more_legs}

-- how many `let` nodes stand in an expression
abbrev mutual
  pub lets : ExprTree → ℕ
  lets (leaf a l) = 0
  lets (one a o e) = lets e
  lets (two a t e f) = lets e + lets f
  lets (three a t e f g) = lets e + lets f + lets g
  lets (many a m es) = lets_in es
  lets (let_in a b e f) = 1 + (lets e + lets f)
  lets (loop a ls e b n x f) = lets_in_legs ls + lets e + lets f
  lets (iterate a e b f) = lets e + lets f

  pub lets_in : ExprTrees → ℕ
  lets_in no_exprs = 0
  lets_in (more_exprs e es) = lets e + lets_in es

  pub lets_in_leg : LegTree → ℕ
  lets_in_leg (whole e) = lets e
  lets_in_leg (strided e f g h) = lets e + lets f + lets g + lets h

  pub lets_in_legs : LegTrees → ℕ
  lets_in_legs no_legs = 0
  lets_in_legs (more_legs l ls) = lets_in_leg l + lets_in_legs ls

-- M5: there are more than 1,024 of them
abbrev pub has_too_many_lets : ExprTree → Bool
has_too_many_lets e = nat_lt 1024 (lets e)
