use Rattle.std.proofs.Common.{ℕ, ◌<◌, get_or}
use Rattle.weld_tree.specs.TypeTree.{TypeTree}
use Rattle.weld_tree.specs.Types.{IsWellFormed}
use Rattle.weld_tree.proofs.ty.+well_formed.Given as goal

abbrev pub invariant-Tys::are_well_formed-loop-ty : goal.invariant-Tys::are_well_formed-loop-ty
invariant-Tys::are_well_formed-loop-ty l = (k : ℕ) (d : TypeTree) → k < l.ty-index → IsWellFormed (get_or l.ty-items k d)
