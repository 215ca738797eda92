use Rattle.std.proofs.Common.{◌≤◌, ◌+◌, pos, ◌∙◌, ap, get_or, List, ℤ, w64, of_z, to_z, arith}
use Rattle.std.proofs.lemmas.Int.{to_z-of_z}
use Rattle.std.specs.Ordering.{int_eq}
use Rattle.weld_deeds.proofs.RowLemmas.{row_longer, row_step, count_step, few_step}
use Rattle.weld_deeds.proofs.rows.chosen_words.Goals as goal

pub push_chosen-requires : goal.push_chosen-requires
push_chosen-requires c = row_longer c.args.columns.now c.args.count c.rows.place c.requires.ready c.rows-test.true

pub rows-preserved : goal.rows-preserved
rows-preserved c =
    let x = to_z w64 (of_z w64 c.word_at-truth.result) in
    let word = to_z-of_z w64 c.word_at-truth.result (record { sfits = c.word_at-truth.type_inv }) ∙ c.word_at-truth.ensures ∙ ap (λ (xs : List ℤ). get_or xs c.rows.place (pos 0)) c.deref.ensures.value in
    let few = few_step c.in_ok-rows.field-0 (int_eq x (pos 1)) c.in_ok-rows.ensures.many in
    let at : c.rows.rows + c.in_ok-rows.field-0 ≤ c.rows.place + 1 = omega (arith, few, c.rows.invariant.2) in (
      row_step c.args.truths.now c.args.columns.now c.args.count c.rows.place x c.rows.words.items c.push_chosen.new.words.items _ c.rows-test.true word c.in_ok-rows.ensures.items c.rows.invariant.0,
      count_step c.args.truths.now c.args.count c.rows.place c.rows.rows c.in_ok-rows.field-0 _ x c.rows-test.true word c.in_ok-rows.ensures.many c.rows.invariant.1,
      at,
    )
