use Rattle.weld_meaning.proofs.WellFormed.{type_formed}
use Rattle.weld_meaning.proofs.Programs.{program_type_formed}
use Rattle.weld_meaning.proofs.laws.types_are_well_formed.Goals as goal

pub returns : goal.returns
returns c = record { expression = type_formed; program = program_type_formed }
