use Rattle.std.proofs.Common.{◌≡◌, take}
use Rattle.weld_tree.specs.TypeTree.{pack}
use Rattle.weld_horizontal.proofs.RowLemmas.{field_list}
use Rattle.weld_vertical_zip.proofs.rows.items_from.Given as goal

abbrev pub invariant-loop-i : goal.invariant-loop-i
invariant-loop-i l = l.items.items ≡ field_list l.place l.row.0 (pack l.all) l.from (take l.i l.types)
