use Rattle.weld_values.proofs.OneReading.{one_reading, no_reason, one_reason}
use Rattle.weld_values.proofs.laws.one_reading.Goals as goal

pub returns : goal.returns
returns c = record { value = one_reading; no_reason = no_reason; one_reason = one_reason }
