use Rattle.std.proofs.Common.{◌≡◌, ◌+◌, ◌-◌, ◌^◌, ◌≤◌, min, drop}
use Rattle.weld_tree.specs.TypeTree.{pack, types_nodes}
use Rattle.weld_tree.proofs.ty.+nodes.Given as goal

-- the sum so far and what is left make the whole, where it fits
abbrev pub invariant-Tys::nodes-loop-ty : goal.invariant-Tys::nodes-loop-ty
invariant-Tys::nodes-loop-ty l = (l.sum ≤ 2 ^ 64 - 1) × (min (l.sum + types_nodes (pack (drop l.ty-index l.ty-items))) (2 ^ 64 - 1) ≡ min (types_nodes (pack l.ty-items)) (2 ^ 64 - 1))
