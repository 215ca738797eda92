use Rattle.weld_objects.proofs.Sound.{Laws}
use Rattle.weld_objects.proofs.Lowering.{lowered_means, lowered_faults, lowered_done}
use Rattle.weld_objects.proofs.laws.one_program_means_the_objects.Goals as goal

pub returns : goal.returns
returns c =
    let laws : Laws = record { expression = c.typed_programs_are_never_stuck.ensures.expression; program = c.typed_programs_are_never_stuck.ensures.program } in
    record { whole = lowered_means laws; fault = lowered_faults laws; value = lowered_done laws }
