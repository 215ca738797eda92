use Rattle.std.proofs.Common.{arith, ap, ◌∙◌, length}
use Rattle.weld_tree.specs.TypeTree.{vec, struct, pack}
use Rattle.weld_read_script.proofs.Lists.{mapped_all, columns_packed}
use Rattle.weld_read_script.proofs.steps.table.table_type.Goals as goal

pub returns : goal.returns
returns c =
    c.struct_of.ensures ∙ ap (λ ts. struct (pack ts)) (mapped_all vec c.args.cells.now c.loop-cell.cell-index c.loop-cell.fields (omega (arith, ap length c.as_slice-cell-items.ensures.value)) c.loop-cell.invariant)
    ∙ ap struct (columns_packed c.args.cells.now)
