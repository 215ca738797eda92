use Rattle.std.proofs.Common.{◌≡◌, ◌+◌, ◌*◌, ◌++◌, map, drop}
use Rattle.weld_data.specs.Value.{values}
use Rattle.weld_data.specs.View.{view_val}
use Rattle.weld_tree.specs.TypeTree.{type_nodes, types_nodes, pack}
use Rattle.weld_write_value.specs.Showing.{led, led_entries, show, show_fields}
use Rattle.weld_write_value.proofs.write.+write.Given as goal

abbrev pub decreases-write_at : goal.decreases-write_at
decreases-write_at l = 4 * type_nodes l.ty.now

abbrev pub decreases-write_nested : goal.decreases-write_nested
decreases-write_nested l = 4 * type_nodes l.item.now + 1

abbrev pub decreases-write_column : goal.decreases-write_column
decreases-write_column l = 4 * type_nodes l.item.now + 2

abbrev pub decreases-write_struct : goal.decreases-write_struct
decreases-write_struct l = 4 * types_nodes (pack l.fields.now) + 1

-- what is written and what is still to come make the whole
abbrev pub invariant-write_nested-items : goal.invariant-write_nested-items
invariant-write_nested-items l = l.out ++ led l.lead (show l.item) (map view_val (drop l.value-index l.items)) ≡ l.fn.out ++ led 91 (show l.item) (map view_val l.items)

abbrev pub invariant-write_struct-fields : goal.invariant-write_struct-fields
invariant-write_struct-fields l = l.out ++ show_fields (pack (drop l.i l.types)) l.lead (values (drop l.i l.vals)) ≡ l.fn.out ++ show_fields (pack l.types) 123 (values l.vals)

abbrev pub decreases-write_dict : goal.decreases-write_dict
decreases-write_dict l = 4 * (type_nodes l.key.now + type_nodes l.value.now) + 1

abbrev pub invariant-write_dict-entries : goal.invariant-write_dict-entries
invariant-write_dict-entries l = l.out ++ led_entries l.lead (show l.key) (show l.value) (drop l.i l.pairs) ≡ l.initial.out ++ led_entries 123 (show l.key) (show l.value) l.pairs
