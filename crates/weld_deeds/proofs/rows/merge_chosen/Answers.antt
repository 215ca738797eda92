use Rattle.std.proofs.Common.{◌∙◌, sym, refl}
use Rattle.weld_deeds.proofs.RowLemmas.{chosen_kept, chosen_are}
use Rattle.weld_deeds.proofs.rows.merge_chosen.Goals as goal

pub merge_rows-requires : goal.merge_rows-requires
merge_rows-requires c =
    chosen_kept c.args.truths.now c.args.columns.now c.args.count c.in_ok-words.rows c.deref.result.now c.deref-2.result.now (c.if-not-are_ready.ensures refl) (sym c.is_empty.ensures ∙ c.if-is_empty.false)
    (c.deref.ensures.value ∙ c.in_ok-kinds.ensures) (record { all = c.deref-2.ensures.value ∙ c.in_ok-words.ensures.all; many = c.in_ok-words.ensures.many })

pub returns : goal.returns
returns c =
    chosen_are c.merge_rows.result c.args.truths.now c.args.columns.now c.args.count c.in_ok-words.rows c.deref.result.now c.deref-2.result.now c.args.built.now c.merge_rows.new.self (c.if-not-are_ready.ensures refl)
    (c.deref.ensures.value ∙ c.in_ok-kinds.ensures) (record { all = c.deref-2.ensures.value ∙ c.in_ok-words.ensures.all; many = c.in_ok-words.ensures.many }) c.merge_rows.ensures
