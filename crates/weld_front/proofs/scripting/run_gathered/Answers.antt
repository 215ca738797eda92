use Rattle.std.proofs.Common.{subst, sym}
use Rattle.weld_data.specs.Value.{Value}
use Rattle.weld_data.specs.View.{view_val}
use Rattle.weld_builders.specs.Outcome.{Outcome}
use Rattle.weld_eval.specs.Answers.{Answers}
use Rattle.weld_front.proofs.Noted.{NotesKnown}
use Rattle.weld_front.proofs.ScriptLemmas.{noted_of, run_counted, meant_as}
use Rattle.weld_front.proofs.scripting.run_gathered.Goals as goal

pub returns-in-Ok-Some-clause-value : goal.returns-in-Ok-Some-clause-value
returns-in-Ok-Some-clause-value g c =
    let known : NotesKnown = record { same = c.notes_play_no_part.ensures.same; meant = c.meaning_looks_past_spelling.ensures; counts = c.same_programs_have_same_counts.ensures.loops; chains = c.chains_look_past_notes.ensures } in
    let same = noted_of c.args.program c.in-Ok-Some.field-0 c.in-Ok-Some.noted c.in-Ok-Some.field-0-is c.in-Ok-Some.ensures in
    subst (λ (o : Outcome Value). Answers (λ r. view_val r.0) c.run_program.result o)
    (sym (meant_as known c.in-Ok-Some.noted c.args.program c.args.inputs.now same c.requires)) c.run_program.ensures.value

pub returns-in-Ok-Some-clause-note : goal.returns-in-Ok-Some-clause-note
returns-in-Ok-Some-clause-note g c =
    let known : NotesKnown = record { same = c.notes_play_no_part.ensures.same; meant = c.meaning_looks_past_spelling.ensures; counts = c.same_programs_have_same_counts.ensures.loops; chains = c.chains_look_past_notes.ensures } in
    let same = noted_of c.args.program c.in-Ok-Some.field-0 c.in-Ok-Some.noted c.in-Ok-Some.field-0-is c.in-Ok-Some.ensures in
    run_counted known c.in-Ok-Some.noted c.args.program c.args.inputs.now c.args.asked.options.cut c.run_program.result same c.run_program.ensures.note
