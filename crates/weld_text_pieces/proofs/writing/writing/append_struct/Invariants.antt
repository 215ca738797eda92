use Rattle.std.proofs.Common.{◌≡◌, ◌++◌, drop}
use Rattle.weld_data.specs.Value.{values}
use Rattle.weld_tree.specs.TypeTree.{pack}
use Rattle.weld_write_value.specs.Showing.{show_fields}
use Rattle.weld_text_pieces.proofs.writing.writing.append_struct.Given as goal

-- what is written and what is still to come make the whole
abbrev pub invariant-fields : goal.invariant-fields
invariant-fields g l = l.out ++ show_fields (pack (drop l.i l.types)) l.lead (values (drop l.i l.vals)) ≡ l.fn.out ++ show_fields (pack l.types) 123 (values l.vals)
