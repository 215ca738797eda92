use Rattle.weld_meaning.proofs.PartsGood.{KeyLaws}
use Rattle.weld_meaning.proofs.NeverStuck.{never_stuck}
use Rattle.weld_meaning.proofs.Programs.{program_never_stuck}
use Rattle.weld_meaning.proofs.laws.typed_programs_are_never_stuck.Goals as goal

pub returns : goal.returns
returns c =
    let laws : KeyLaws = record { total = c.values_are_ordered.ensures.total; alike = c.keys_are_ordered_alike.ensures } in
    record { expression = λ e g t env h w fit. (never_stuck laws e g t env h w fit).fits; program = program_never_stuck laws }
