use Rattle.weld_table.proofs.Deciding.{table_reads_or_not}
use Rattle.weld_table.proofs.laws.each_table_reads_or_not.Goals as goal

pub returns : goal.returns
returns c = table_reads_or_not
