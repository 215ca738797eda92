use Rattle.std.proofs.Common.{◌≡◌, ◌+◌, ◌*◌, ◌++◌, drop}
use Rattle.weld_tree.specs.TypeTree.{type_nodes, types_nodes, build_nodes, pack}
use Rattle.weld_tree.specs.TypeView.{view_build}
use Rattle.weld_print.specs.TypeText.{fields_text}
use Rattle.weld_print.proofs.types.write.+write.Given as goal

abbrev pub decreases-write_type : goal.decreases-write_type
decreases-write_type l = 4 * type_nodes l.ty.now

abbrev pub decreases-write_two : goal.decreases-write_two
decreases-write_two l = 4 * (type_nodes l.first.now + type_nodes l.second.now) + 1

abbrev pub decreases-write_build : goal.decreases-write_build
decreases-write_build l = 4 * build_nodes (view_build l.build.now) + 2

abbrev pub decreases-write_fields : goal.decreases-write_fields
decreases-write_fields l = 4 * types_nodes (pack l.fields.now) + 1

-- what is written and what is still to come make the whole
abbrev pub invariant-write_fields-fields : goal.invariant-write_fields-fields
invariant-write_fields-fields l = l.out ++ fields_text l.lead (pack (drop l.field-index l.field-items)) ≡ l.fn.out ++ fields_text 123 (pack l.field-items)
