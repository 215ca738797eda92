use Rattle.weld_check_types.proofs.Uses.{one_refusal}
use Rattle.weld_check_types.proofs.Sameness.{are_same}
use Rattle.weld_check_types.proofs.unnoted.notes_play_no_part.Goals as goal

pub returns-clause-linear : goal.returns-clause-linear
returns-clause-linear c = one_refusal

pub returns-clause-same : goal.returns-clause-same
returns-clause-same c = are_same
