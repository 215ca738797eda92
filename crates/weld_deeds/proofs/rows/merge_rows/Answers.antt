use Rattle.std.proofs.Common.{◌∙◌, sym, refl}
use Rattle.weld_deeds.proofs.RowLemmas.{rows_kept, rows_are}
use Rattle.weld_deeds.proofs.rows.merge_rows.Goals as goal

pub merge_rows-requires : goal.merge_rows-requires
merge_rows-requires c =
    rows_kept c.args.columns.now c.args.count c.deref.result.now c.deref-2.result.now (c.if-not-are_ready.ensures refl) (sym c.is_empty.ensures ∙ c.if-is_empty.false)
    (c.deref.ensures.value ∙ c.in_ok-kinds.ensures) (c.deref-2.ensures.value ∙ c.in_ok-words.ensures)

pub returns : goal.returns
returns c =
    rows_are c.merge_rows.result c.args.columns.now c.args.count c.deref.result.now c.deref-2.result.now c.args.built.now c.merge_rows.new.self (c.if-not-are_ready.ensures refl)
    (c.deref.ensures.value ∙ c.in_ok-kinds.ensures) (c.deref-2.ensures.value ∙ c.in_ok-words.ensures) c.merge_rows.ensures
