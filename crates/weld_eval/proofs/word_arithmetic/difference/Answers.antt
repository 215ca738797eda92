use Rattle.std.proofs.Common.{◌-ℤ◌, w64, ap, ◌∙◌}
use Rattle.std.proofs.lemmas.Int.{to_z-of_z, wrapping_sub_is}
use Rattle.weld_data.specs.Wrapped.{wrapped}
use Rattle.weld_eval.specs.Word.{of_word}
use Rattle.weld_eval.proofs.Words.{wrapped_wide, words_difference}
use Rattle.weld_eval.proofs.word_arithmetic.difference.Goals as goal

pub returns-clause-value : goal.returns-clause-value
returns-clause-value c =
    let k = c.args.kind in
    let x = c.args.x in
    let y = c.args.y in
    ap (of_word k) (to_z-of_z w64 _ (record { sfits = c.wrap.type_inv }))
    ∙ c.wrap.ensures.value
    ∙ ap (wrapped k) (wrapping_sub_is w64 x y c.ranges.x c.ranges.y)
    ∙ wrapped_wide k (x -ℤ y)
    ∙ words_difference k x y c.ranges.x c.ranges.y
