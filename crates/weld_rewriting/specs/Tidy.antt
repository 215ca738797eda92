-- Expressions whose binders get in nobody's way.
use Rattle.std.specs.Prelude.{ℕ}
use Rattle.weld_tree.specs.ExprTree.{ExprTree}
use Rattle.weld_tree.specs.Program.{bound, IsOneOf, AreDistinct}
use Rattle.weld_meaning.specs.Names.{IsFree}

-- each binder has a number of its own, and none that occurs free, as in the body of every program
pub record IsTidy (e : ExprTree) : Type 0 where
  pub distinct : AreDistinct (bound e)
  pub apart : (s : ℕ) → IsOneOf (bound e) s → IsFree e s → ⊥
