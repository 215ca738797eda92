use Rattle.std.proofs.Common.{subst, List, ℕ}
use Rattle.weld_front.specs.Accepting.{IsCheckedOf, RefusesOr}
use Rattle.weld_front.proofs.AnswerLemmas.{show_refused, show_answers}
use Rattle.weld_front.proofs.showing.answer_show.Goals as goal

pub returns-in-Err : goal.returns-in-Err
returns-in-Err c = show_refused c.args.job.now c.in-Err.refusal c.refused.result (subst (λ (t : List ℕ). RefusesOr t c.in-Err.refusal) c.text.ensures c.in-Err.ensures.refused) c.refused.ensures.status c.refused.ensures.text c.refused.ensures.said

pub returns-in-Ok : goal.returns-in-Ok
returns-in-Ok c =
    show_answers c.args.job.now c.in-Ok.checked.program c.in-Ok.checked.ty c.show.result
    (record { same = c.notes_play_no_part.ensures.same; meant = c.meaning_looks_past_spelling.ensures; counts = c.same_programs_have_same_counts.ensures.loops; chains = c.chains_look_past_notes.ensures })
    (subst (λ (t : List ℕ). IsCheckedOf t c.in-Ok.checked.program c.in-Ok.checked.ty) c.text.ensures c.in-Ok.ensures.accepted)
    c.show.ensures.status c.show.ensures.text
