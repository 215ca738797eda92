-- The types of a table's columns.
use Rattle.std.proofs.Common.{◌≡◌, List, [], ◌∷◌, map, refl, ap}
use Rattle.weld_tree.specs.TypeTree.{TypeTree, vec, pack, more_types}
use Rattle.weld_table.specs.Table.{list_types}

pub lists_packed : (ts : List TypeTree) → pack (map vec ts) ≡ list_types ts
lists_packed [] = refl
lists_packed (t ∷ ts) = ap (more_types (vec t)) (lists_packed ts)
