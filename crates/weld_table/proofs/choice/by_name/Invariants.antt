use Rattle.std.proofs.Common.{length, drop}
use Rattle.std.specs.List.{All}
use Rattle.csv.specs.Records.{fields_of}
use Rattle.weld_table.specs.Table.{IsCell}
use Rattle.weld_table.specs.Cells.{IsNew}
use Rattle.weld_table.proofs.Choosing.{AreNamed}
use Rattle.weld_table.proofs.choice.by_name.Given as goal

abbrev pub invariant-loop-name : goal.invariant-loop-name
invariant-loop-name l = record {
  places : AreNamed (fields_of l.header) l.names l.types (drop l.name-index l.names) l.left l.columns.items;
  fresh : All (IsNew (length (fields_of l.header))) l.columns.items;
  cells : All IsCell l.left;
}
