use Rattle.std.proofs.Common.{◌≡◌, ◌-◌, ◌^◌, ◌≤◌, min, max, drop}
use Rattle.weld_tree.specs.TypeTree.{pack, types_depth}
use Rattle.weld_tree.proofs.ty.+depth.Given as goal

-- the deepest so far and what is left make the whole, where it fits
abbrev pub invariant-Tys::depth-loop-ty : goal.invariant-Tys::depth-loop-ty
invariant-Tys::depth-loop-ty l = (l.deepest ≤ 2 ^ 64 - 1) × (min (max l.deepest (types_depth (pack (drop l.ty-index l.ty-items)))) (2 ^ 64 - 1) ≡ min (types_depth (pack l.ty-items)) (2 ^ 64 - 1))
