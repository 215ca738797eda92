use Rattle.std.proofs.Common.{w64, ap, ◌∙◌}
use Rattle.std.proofs.lemmas.Int.{to_z-of_z}
use Rattle.weld_data.specs.Wrapped.{wrapped}
use Rattle.weld_eval.specs.Word.{of_word}
use Rattle.weld_eval.proofs.Words.{word_converted}
use Rattle.weld_eval.proofs.word_arithmetic.converted.Goals as goal

pub returns-clause-value : goal.returns-clause-value
returns-clause-value c =
    ap (of_word c.args.to) (to_z-of_z w64 _ (record { sfits = c.wrap.type_inv }))
    ∙ c.wrap.ensures.value
    ∙ ap (wrapped c.args.to) (to_z-of_z w64 c.args.x c.ranges.x)
    ∙ word_converted c.args.to c.args.from c.args.x c.ranges.x
