-- A rule whose answer another rule settles.
use Rattle.std.specs.Prelude.{ℕ, zero, suc, Option, option_map}
use Rattle.weld_tree.specs.ExprTree.{ExprTree}
use Rattle.weld_rewriting.specs.Sweep.{RootRule, settled}

-- the expression after the rule was tried at its root, so many times
abbrev pub settled_times : ℕ → RootRule → ExprTree → ExprTree
settled_times zero r e = e
settled_times (suc n) r e = settled_times n r (settled r e)

-- the first rule, and where it matches, the second tried at its answer, so many times
abbrev pub followed : ℕ → RootRule → RootRule → RootRule
followed n r s e = option_map (settled_times n s) (r e)
