use Rattle.weld_front.proofs.Asking.{rows_asked}
use Rattle.weld_front.proofs.EachAnswer.{answers_some}
use Rattle.weld_front.proofs.AnswerLemmas.{text_spells}
use Rattle.weld_front.proofs.laws.each_job_has_an_answer.Goals as goal

pub returns : goal.returns
returns c = λ words o job asks.
    answers_some
    (record {
      text = c.parsed_or_refused.ensures;
      typed = λ text p t h e. ((c.the_walk_is_typing.ensures.program p t (c.parsed_programs.ensures text p h).well_made).0 e).0;
      data_of = c.each_job_fits_or_not.ensures;
      fit = c.arguments_have_their_types.ensures;
      notes = record { same = c.notes_play_no_part.ensures.same; meant = c.meaning_looks_past_spelling.ensures; counts = c.same_programs_have_same_counts.ensures.loops; chains = c.chains_look_past_notes.ensures };
      normal = λ text p t a. c.each_program_has_a_normal_form.ensures text p t (text_spells text p a.parses) (c.parsed_programs.ensures text p a.parses) a.typed a.linear;
      never_stuck = c.typed_programs_are_never_stuck.ensures.program;
      script = c.each_text_is_read.ensures;
      is_script = c.read_scripts_are_scripts.ensures;
      declared = c.scripts_declare.ensures;
      inputs_of = c.each_job_fits_or_not-2.ensures;
      inputs_fit = c.inputs_have_their_types.ensures;
      gathered = c.each_script_is_gathered.ensures;
      optimisable = c.each_accepted_program_can_be_optimised.ensures;
      soak = c.soak_is_a_script.ensures.script;
      soak_fits = c.soak_is_a_script.ensures.inputs;
    })
    o job (rows_asked words o asks)
