-- Guarded merges, merged always: the rule of the pass, and what its answer has none of.
use Rattle.std.specs.Prelude.{◌≡◌, false, Some}
use Rattle.weld_tree.specs.ExprTree.{ExprTree, two, merge}
use Rattle.weld_rewriting.specs.Nodes.{EachNode}
use Rattle.weld_rewriting.specs.Sweep.{RootRule}
use Rattle.weld_rewriting.specs.Tested.{tested}
use Rattle.weld_substitution.specs.Redex.{noted}
use Rattle.weld_predicate.specs.Guard.{Merger, merger_of, is_guard, unguarded}

-- the rule: a guarded merge is merged always
abbrev pub guards_rule : RootRule
guards_rule = tested is_guard unguarded

-- no node of the expression is a guarded merge
abbrev pub HasNoGuard : ExprTree → Type 0
HasNoGuard e = EachNode (λ node. is_guard node ≡ false) e

-- the expression merges into a `merger`
abbrev pub MergesIntoMerger : ExprTree → Type 0
MergesIntoMerger (two a o b v) = (o ≡ merge) × (m : Merger) × (merger_of (noted b) ≡ Some m)
MergesIntoMerger _ = ⊥
