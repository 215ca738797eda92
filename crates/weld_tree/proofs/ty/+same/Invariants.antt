use Rattle.std.proofs.Common.{◌≡◌, ℕ, ◌<◌, get_or}
use Rattle.weld_tree.specs.TypeTree.{TypeTree}
use Rattle.weld_tree.proofs.ty.+same.Given as goal

abbrev pub invariant-Tys::same-loop-i : goal.invariant-Tys::same-loop-i
invariant-Tys::same-loop-i l = (k : ℕ) (d : TypeTree) → k < l.i → get_or l.self k d ≡ get_or l.other k d
