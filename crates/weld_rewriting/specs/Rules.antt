-- What is asked of a rule of rewriting.
use Rattle.std.specs.Prelude.{◌≡◌, ◌<◌, Some}
use Rattle.weld_tree.specs.ExprTree.{ExprTree}
use Rattle.weld_rewriting.specs.Sweep.{RootRule}
use Rattle.weld_rewriting.specs.Tidy.{IsTidy}
use Rattle.weld_rewriting.specs.Rewriting.{Rewrites}
use Rattle.weld_rewriting.specs.Weight.{weight}

-- what the rule answers is lighter than the node
pub record Falls (r : RootRule) : Type 0 where
  pub lighter : (e d : ExprTree) → r e ≡ Some d → weight d < weight e

-- what the rule answers at a tidy node rewrites it
pub record IsSound (r : RootRule) : Type 0 where
  pub rewrites : (e d : ExprTree) → IsTidy e → r e ≡ Some d → Rewrites d e
