-- Parts of types are smaller than the whole, which the recursions over types rest on.
use Rattle.std.specs.Prelude.{ℕ, ◌+◌, ◌*◌, ◌≤◌, List, [], ◌∷◌}
use Rattle.std.proofs.Common.{arith}
use denote.Param.Weighed.{most}
use Rattle.weld_tree.specs.TypeTree.{TypeTree, pack, type_nodes, types_nodes}

-- twice the nodes, so that a struct and the list of its fields differ
abbrev pub type_size : TypeTree → ℕ
type_size t = 2 * type_nodes t

abbrev pub types_size : List TypeTree → ℕ
types_size ts = 2 * types_nodes (pack ts) + 1

pub most-types_size : (ts : List TypeTree) → most (λ t. type_size t + 1) ts ≤ types_size ts
most-types_size [] = omega arith
most-types_size (t ∷ ts) = omega (arith, most-types_size ts)
