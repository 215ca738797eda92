use Rattle.std.proofs.Common.{subst, List, ℕ}
use Rattle.weld_front.specs.Accepting.{IsCheckedOf, RefusesOr}
use Rattle.weld_front.proofs.AnswerLemmas.{run_refused, run_answers}
use Rattle.weld_front.proofs.running.answer_run.Goals as goal

pub returns-in-Err : goal.returns-in-Err
returns-in-Err g c = run_refused c.args.asked.options c.args.job c.in-Err.refusal c.refused.result (subst (λ (t : List ℕ). RefusesOr t c.in-Err.refusal) c.text.ensures c.in-Err.ensures.refused) c.refused.ensures.status c.refused.ensures.text c.refused.ensures.said

pub returns-in-Ok : goal.returns-in-Ok
returns-in-Ok g c =
    run_answers c.args.asked.options c.args.job c.in-Ok.checked.program c.in-Ok.checked.ty c.run_job.result
    (record { same = c.notes_play_no_part.ensures.same; meant = c.meaning_looks_past_spelling.ensures; counts = c.same_programs_have_same_counts.ensures.loops; chains = c.chains_look_past_notes.ensures })
    (subst (λ (t : List ℕ). IsCheckedOf t c.in-Ok.checked.program c.in-Ok.checked.ty) c.text.ensures c.in-Ok.ensures.accepted)
    c.run_job.ensures
