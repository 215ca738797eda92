use Rattle.weld_values.proofs.Pieces.{bracketed}
use Rattle.weld_values.proofs.laws.plain_values_in_brackets_read_as_lists.Goals as goal

pub returns : goal.returns
returns c = λ t text body vs f. bracketed t f text body vs
