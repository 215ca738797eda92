use Rattle.std.proofs.Common.{◌≡◌, map}
use Rattle.weld_table.specs.Cells.{listed_of}
use Rattle.weld_table.proofs.table.into_struct.Given as goal

abbrev pub invariant-loop-column : goal.invariant-loop-column
invariant-loop-column l = l.lists ≡ map listed_of l.yielded
