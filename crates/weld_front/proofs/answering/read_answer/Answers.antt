use Rattle.weld_front.proofs.AnswerLemmas.{parts_answer, within_extent}
use Rattle.weld_front.proofs.answering.read_answer.Goals as goal

pub returns-in-Ok-answer_parts-clause-ok : goal.returns-in-Ok-answer_parts-clause-ok
returns-in-Ok-answer_parts-clause-ok g c = parts_answer c.args.asked.options (g.S.Source.left c.args.input.now) c.in-Ok.job _ _ c.in-Ok.ensures.ok c.in-Ok.ensures.within c.in-Ok-answer_parts.ensures

pub returns-in-Ok-answer_parts-clause-extent : goal.returns-in-Ok-answer_parts-clause-extent
returns-in-Ok-answer_parts-clause-extent g c = within_extent (g.S.Source.left c.args.input.now) (g.S.Source.left c.read_job.new.input) c.in-Ok.ensures.within c.in-Ok.ensures.end
