-- Two rules as one.
use Rattle.std.specs.Prelude.{Option, Some, None}
use Rattle.weld_tree.specs.ExprTree.{ExprTree}
use Rattle.weld_rewriting.specs.Sweep.{RootRule}

abbrev pub first_of : Option ExprTree → Option ExprTree → Option ExprTree
first_of (Some d) o = Some d
first_of None o = o

-- the first rule where it matches, else the second
abbrev pub either : RootRule → RootRule → RootRule
either r s e = first_of (r e) (s e)
