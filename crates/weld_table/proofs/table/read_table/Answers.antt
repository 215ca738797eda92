use Rattle.std.proofs.Common.{◌∙◌, sym, ap}
use Rattle.weld_table.specs.declared.verdict.Verdict.TheVariants.{Fine}
use Rattle.weld_table.specs.Cells.{worst_of}
use Rattle.weld_table.proofs.Finishing.{is_table, judged_fault, judged_fine}
use Rattle.weld_table.proofs.table.read_table.Goals as goal

pub returns-in-Err-clause-fault : goal.returns-in-Err-clause-fault
returns-in-Err-clause-fault c =
    judged_fault c.args.content.now c.args.wanted.now c.in_ok-columns.columns.items (worst_of Fine c.deref.result.now) c.in-Err.fault c.in_ok-columns.ensures.read
    (ap (worst_of Fine) (sym c.deref.ensures.value)) c.in-Err.ensures

pub returns-in-Ok-clause-value : goal.returns-in-Ok-clause-value
returns-in-Ok-clause-value c =
    is_table c.args.content.now c.args.wanted.now c.in_ok-columns.columns.items _ c.in_ok-columns.ensures.read
    (ap (worst_of Fine) (sym c.deref.ensures.value) ∙ judged_fine (worst_of Fine c.deref.result.now) c.in_default.field-0 c.in_default.ensures) c.in-Ok.ensures
