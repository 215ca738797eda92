use Rattle.weld_types.proofs.Typing.{Unique, passes, finds, program_passes, finds_program, refused_nowhere, nowhere_refused}
use Rattle.weld_types.proofs.laws.the_walk_is_typing.Goals as goal

pub returns : goal.returns
returns c =
    let q : Unique = record { one = c.types_are_unique.ensures } in
    record {
      expression = λ e g t m. (passes q e g t m, λ h. finds e g t h.0 h.1);
      program = λ p t m. (program_passes q p t m, λ h. finds_program p t h.0 h.1);
      refusal = λ p m. (refused_nowhere q p m, nowhere_refused p);
    }
