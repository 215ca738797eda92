use Rattle.weld_values.specs.Showing.{show}
use Rattle.weld_values.proofs.Bytes.{written_reads}
use Rattle.weld_values.proofs.OneReading.{one_reading}
use Rattle.weld_values.proofs.laws.written_values_read_back.Goals as goal

pub returns : goal.returns
returns c = record { reads = written_reads; only = λ t v w p h r. one_reading (show t v) t w v r (written_reads t v p h) }
