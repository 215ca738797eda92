use Rattle.std.proofs.Common.{sym}
use Rattle.csv.specs.Records.{fields_of}
use Rattle.weld_table.proofs.SoFar.{field_there}
use Rattle.weld_table.proofs.column.TableColumn.add.Goals as goal

pub unreachable-requires : goal.unreachable-requires
unreachable-requires c =
    field_there (fields_of c.args.row.now) c.args.self.now.place c.requires (sym (rw c.in_default.is at c.get.ensures.value))
