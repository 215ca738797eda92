use Rattle.std.proofs.Common.{◌≡◌, take}
use Rattle.weld_tree.proofs.ty.+copy.Given as goal

abbrev pub invariant-Tys::copy-loop-ty : goal.invariant-Tys::copy-loop-ty
invariant-Tys::copy-loop-ty l = l.items.items ≡ take l.ty-index l.ty-items
