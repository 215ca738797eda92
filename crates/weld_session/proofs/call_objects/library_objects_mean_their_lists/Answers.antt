use Rattle.weld_calls.specs.CallPrograms.{fragment}
use Rattle.weld_calls.specs.CallMeaning.{call_meaning}
use Rattle.weld_objects.proofs.Sound.{Laws, objects_sound}
use Rattle.weld_session.proofs.Denoting.{call_denotes}
use Rattle.weld_session.proofs.call_objects.library_objects_mean_their_lists.Goals as goal

pub returns : goal.returns
returns c = λ os id t ids call types are operator fits e.
    let laws : Laws = record { expression = c.typed_programs_are_never_stuck.ensures.expression; program = c.typed_programs_are_never_stuck.ensures.program } in
    call_denotes os id t ids (fragment call types) (call_meaning call types) are (λ k u. objects_sound laws os k u are) e
    (λ vs fit. c.each_call_means_its_list.ensures call types vs operator fits fit)
