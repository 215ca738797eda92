-- The uses of a name in an expression.
use Rattle.std.specs.Prelude.{ℕ, ◌+◌, ◌==◌, if◌then◌else◌, Bool, false, Option, Some, None}
use Rattle.weld_tree.specs.ExprTree.{ExprTree, leaf, one, two, three, many, let_in, loop, iterate, ExprTrees, no_exprs, more_exprs, LegTree, whole, strided, LegTrees, no_legs, more_legs, Leaf, int, truth, chars, name, fresh}

-- whether the leaf is the name
abbrev pub is_name : Leaf → ℕ → Bool
is_name (int k x) s = false
is_name (truth b) s = false
is_name (chars bs) s = false
is_name (name t) s = s == t
is_name (fresh b) s = false

abbrev mutual
  -- how many uses of the name stand in the expression
  pub uses : ExprTree → ℕ → ℕ
  uses (leaf a l) s = if is_name l s then 1 else 0
  uses (one a o e) s = uses e s
  uses (two a o e f) s = uses e s + uses f s
  uses (three a o c e f) s = uses c s + uses e s + uses f s
  uses (many a o es) s = uses_in es s
  uses (let_in a b e f) s = uses e s + uses f s
  uses (loop a ls e b n x f) s = uses_in_legs ls s + uses e s + uses f s
  uses (iterate a e b f) s = uses e s + uses f s

  pub uses_in : ExprTrees → ℕ → ℕ
  uses_in no_exprs s = 0
  uses_in (more_exprs e es) s = uses e s + uses_in es s

  pub uses_in_leg : LegTree → ℕ → ℕ
  uses_in_leg (whole e) s = uses e s
  uses_in_leg (strided e f h i) s = uses e s + uses f s + uses h s + uses i s

  pub uses_in_legs : LegTrees → ℕ → ℕ
  uses_in_legs no_legs s = 0
  uses_in_legs (more_legs l ls) s = uses_in_leg l s + uses_in_legs ls s

-- whether the expression is a use of the name
abbrev pub is_use : ExprTree → ℕ → Bool
is_use (leaf a l) s = is_name l s
is_use (one a o e) s = false
is_use (two a o e f) s = false
is_use (three a o c e f) s = false
is_use (many a o es) s = false
is_use (let_in a b e f) s = false
is_use (loop a ls e b n x f) s = false
is_use (iterate a e b f) s = false

-- the rule of putting a value in a name's place: a use of the name becomes the value
abbrev pub use_rule : ℕ → ExprTree → ExprTree → Option ExprTree
use_rule s v e = if is_use e s then Some v else None
