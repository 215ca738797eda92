use Rattle.weld_objects.proofs.Sound.{Laws, objects_sound}
use Rattle.weld_objects.proofs.laws.objects_are_never_stuck.Goals as goal

pub returns : goal.returns
returns c =
    let laws : Laws = record { expression = c.typed_programs_are_never_stuck.ensures.expression; program = c.typed_programs_are_never_stuck.ensures.program } in
    objects_sound laws
