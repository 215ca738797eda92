use Rattle.std.proofs.Common.{w64, ap, ◌∙◌, neg_ℤ}
use Rattle.std.proofs.lemmas.Int.{to_z-of_z, wrapping_neg_is}
use Rattle.weld_data.specs.Wrapped.{wrapped}
use Rattle.weld_eval.specs.Word.{of_word}
use Rattle.weld_eval.proofs.Words.{wrapped_wide, word_opposite}
use Rattle.weld_eval.proofs.word_arithmetic.opposite.Goals as goal

pub returns-clause-value : goal.returns-clause-value
returns-clause-value c =
    let k = c.args.kind in
    let x = c.args.x in
    ap (of_word k) (to_z-of_z w64 _ (record { sfits = c.wrap.type_inv }))
    ∙ c.wrap.ensures.value
    ∙ ap (wrapped k) (to_z-of_z w64 _ (record { sfits = c.wrapping_neg.type_inv }) ∙ c.wrapping_neg.ensures ∙ rw (to_z-of_z w64 x c.ranges.x) (wrapping_neg_is w64 x c.ranges.x))
    ∙ wrapped_wide k (neg_ℤ x)
    ∙ word_opposite k x c.ranges.x
