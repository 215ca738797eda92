use Rattle.std.proofs.Common.{subst, List, ℕ}
use Rattle.weld_front.specs.Accepting.{IsCheckedOf, RefusesOr}
use Rattle.weld_front.proofs.AnswerLemmas.{check_refused, check_answers}
use Rattle.weld_front.proofs.answering.answer_check.Goals as goal

pub returns-in-Err : goal.returns-in-Err
returns-in-Err c = check_refused c.args.job.now c.in-Err.refusal c.refused.result (subst (λ (t : List ℕ). RefusesOr t c.in-Err.refusal) c.text.ensures c.in-Err.ensures.refused) c.refused.ensures.status c.refused.ensures.text c.refused.ensures.said

pub returns-in-Ok : goal.returns-in-Ok
returns-in-Ok c =
    check_answers c.args.job.now c.in-Ok.checked.program c.in-Ok.checked.ty c.told-answer.result
    (subst (λ (t : List ℕ). IsCheckedOf t c.in-Ok.checked.program c.in-Ok.checked.ty) c.text.ensures c.in-Ok.ensures.accepted)
    c.told-answer.ensures.status c.told-answer.ensures.text
