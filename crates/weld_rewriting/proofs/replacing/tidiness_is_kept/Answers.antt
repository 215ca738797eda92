use Rattle.weld_rewriting.proofs.Tidying.{parts_tidy, within_tidy, program_tidy}
use Rattle.weld_rewriting.proofs.replacing.tidiness_is_kept.Goals as goal

pub returns : goal.returns
returns c = record { program = program_tidy; parts = parts_tidy; within = within_tidy }
