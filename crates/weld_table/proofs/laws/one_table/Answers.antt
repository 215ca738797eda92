use Rattle.weld_table.proofs.OneTable.{one_value, no_reason, one_reason}
use Rattle.weld_table.proofs.laws.one_table.Goals as goal

pub returns : goal.returns
returns c = record { value = one_value; no_reason = no_reason; one_reason = one_reason }
