use Rattle.std.proofs.Common.{ℕ, ◌<◌, get_or}
use Rattle.weld_tree.specs.TypeTree.{TypeTree}
use Rattle.weld_tree.specs.Types.{IsIntegerType}
use Rattle.weld_tree.proofs.ty.Tys.are_integers.Given as goal

abbrev pub invariant-loop-ty : goal.invariant-loop-ty
invariant-loop-ty l = (k : ℕ) (d : TypeTree) → k < l.ty-index → IsIntegerType (get_or l.ty-items k d)
