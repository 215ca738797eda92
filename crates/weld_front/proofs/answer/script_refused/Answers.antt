use Rattle.std.proofs.Common.{◌∙◌, ap, sym}
use Rattle.weld_front.specs.Texts.{script_refusal_text}
use Rattle.weld_front.proofs.AnswerLemmas.{line_text}
use Rattle.weld_front.proofs.answer.script_refused.Goals as goal

pub returns-in_ok-format-in-At-clause-text : goal.returns-in_ok-format-in-At-clause-text
returns-in_ok-format-in-At-clause-text c =
    line_text c.in-At.code c.in-At.number c.text-letters.result.now c.answer_of.result.text c.text-letters.ensures (c.answer_of.ensures.text ∙ c.in_ok-format-in-At.ensures.ok) ∙ ap script_refusal_text (sym c.in-At.is)
