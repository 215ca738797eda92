use Rattle.std.proofs.Common.{ℕ, ◌<◌, get_or}
use Rattle.weld_tree.specs.TypeTree.{TypeTree}
use Rattle.weld_tree.specs.Types.{IsBuilderFree}
use Rattle.weld_tree.proofs.ty.+builder_free.Given as goal

abbrev pub invariant-Tys::are_builder_free-loop-ty : goal.invariant-Tys::are_builder_free-loop-ty
invariant-Tys::are_builder_free-loop-ty l = (k : ℕ) (d : TypeTree) → k < l.ty-index → IsBuilderFree (get_or l.ty-items k d)
