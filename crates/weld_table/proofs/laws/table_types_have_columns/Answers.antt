use Rattle.weld_table.proofs.TableTypes.{cells_are, type_is}
use Rattle.weld_table.proofs.laws.table_types_have_columns.Goals as goal

pub returns : goal.returns
returns c = record { cells = cells_are; ty = type_is }
