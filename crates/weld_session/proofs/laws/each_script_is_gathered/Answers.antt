use Rattle.weld_session.proofs.Existing.{gathered_somehow}
use Rattle.weld_session.proofs.laws.each_script_is_gathered.Goals as goal

pub returns : goal.returns
returns c = λ made shown inputs is fit.
    gathered_somehow
    (record {
      program = c.fragments_are_accepted.ensures.program;
      accepted = c.fragments_are_accepted.ensures.accepted;
      typed = c.fragments_are_accepted.ensures.typed;
      formed = c.types_are_well_formed.ensures.program;
      declared = c.declarations_have_types_of_values.ensures;
    })
    (record {
      program = c.objects_make_one_program.ensures.program;
      accepted = c.objects_make_one_program.ensures.accepted;
      typed = c.objects_make_one_program.ensures.typed;
      arguments = c.objects_make_one_program.ensures.arguments;
      loops = c.objects_make_one_program.ensures.loops;
      whole = c.one_program_means_the_objects.ensures.whole;
      fault = c.one_program_means_the_objects.ensures.fault;
      value = c.one_program_means_the_objects.ensures.value;
    })
    (λ os are id t ids call types operator fits e. c.library_objects_mean_their_lists.ensures os id t ids call types are operator fits e)
    c.fragments_are_small.ensures.loops c.inputs_are_given_up.ensures c.rows_are_short.ensures made shown inputs is fit
