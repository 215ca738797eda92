use Rattle.weld_table.proofs.Deciding.{table_typed}
use Rattle.weld_table.proofs.laws.tables_have_their_type.Goals as goal

pub returns : goal.returns
returns c = table_typed
