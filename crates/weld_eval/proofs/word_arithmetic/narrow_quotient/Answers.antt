use Rattle.std.proofs.Common.{w64, ap, ◌∙◌, int_div}
use Rattle.std.proofs.lemmas.Int.{to_z-of_z}
use Rattle.weld_data.specs.Wrapped.{wrapped}
use Rattle.weld_data.proofs.Wrapping.{wrapping_div_is}
use Rattle.weld_eval.specs.Word.{of_word}
use Rattle.weld_eval.proofs.Words.{wrapped_wide}
use Rattle.weld_eval.proofs.word_arithmetic.narrow_quotient.Goals as goal

pub returns-clause-value : goal.returns-clause-value
returns-clause-value c =
    let x = c.args.x in
    let y = c.args.y in
    ap (of_word c.args.kind) (to_z-of_z w64 _ (record { sfits = c.wrap.type_inv }))
    ∙ c.wrap.ensures.value
    ∙ ap (wrapped c.args.kind) (to_z-of_z w64 _ (record { sfits = c.wrapping_div.type_inv }) ∙ c.wrapping_div.ensures ∙ rw (to_z-of_z w64 x c.ranges.x, to_z-of_z w64 y c.ranges.y) (wrapping_div_is x y c.ranges.x))
    ∙ wrapped_wide c.args.kind (int_div x y)
