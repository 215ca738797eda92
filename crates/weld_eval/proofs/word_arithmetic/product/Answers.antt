use Rattle.std.proofs.Common.{◌*ℤ◌, w64, ap, ◌∙◌}
use Rattle.std.proofs.lemmas.Int.{to_z-of_z, wrapping_mul_is}
use Rattle.weld_data.specs.Wrapped.{wrapped}
use Rattle.weld_eval.specs.Word.{of_word}
use Rattle.weld_eval.proofs.Words.{wrapped_wide, words_product}
use Rattle.weld_eval.proofs.word_arithmetic.product.Goals as goal

pub returns-clause-value : goal.returns-clause-value
returns-clause-value c =
    let k = c.args.kind in
    let x = c.args.x in
    let y = c.args.y in
    ap (of_word k) (to_z-of_z w64 _ (record { sfits = c.wrap.type_inv }))
    ∙ c.wrap.ensures.value
    ∙ ap (wrapped k) (wrapping_mul_is w64 x y c.ranges.x c.ranges.y)
    ∙ wrapped_wide k (x *ℤ y)
    ∙ words_product k x y c.ranges.x c.ranges.y
