use Rattle.std.proofs.Common.{◌≡◌, ◌++◌, drop}
use Rattle.weld_data.specs.Value.{values}
use Rattle.weld_data.specs.View.{view_packed}
use Rattle.weld_tree.specs.TypeTree.{pack}
use Rattle.weld_write_value.specs.Showing.{show_fields}
use Rattle.weld_write_value.proofs.StructTexts.{fields_of_struct}
use Rattle.weld_write_value.proofs.structs.write_fields.Given as goal

abbrev pub invariant-fields : goal.invariant-fields
invariant-fields l = l.out ++ show_fields (pack (drop l.i l.fields)) l.lead (values (drop l.i (fields_of_struct (view_packed l.row)))) ≡ l.fn.out ++ show_fields (pack l.fields) 123 (values (fields_of_struct (view_packed l.row)))
