use Rattle.std.proofs.Common.{ℕ, ◌<◌, get_or}
use Rattle.weld_tree.specs.TypeTree.{TypeTree}
use Rattle.weld_tree.specs.Types.{IsBuilder}
use Rattle.weld_tree.proofs.ty.+builder.Given as goal

abbrev pub invariant-Tys::are_builders-loop-ty : goal.invariant-Tys::are_builders-loop-ty
invariant-Tys::are_builders-loop-ty l = (k : ℕ) (d : TypeTree) → k < l.ty-index → IsBuilder (get_or l.ty-items k d)
