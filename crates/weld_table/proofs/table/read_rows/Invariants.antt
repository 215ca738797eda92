use Rattle.std.proofs.Common.{List}
use Rattle.std.specs.List.{All}
use Rattle.weld_table.specs.Table.{Row}
use Rattle.weld_table.specs.Cells.{StandsBelow}
use Rattle.weld_table.specs.Rows.{Leaves, bytes_of, count_of}
use Rattle.weld_table.proofs.Growing.{SeenOf}
use Rattle.weld_table.proofs.table.read_rows.Given as goal

abbrev pub invariant-loop-row : goal.invariant-loop-row
invariant-loop-row l = record {
  stand : All (StandsBelow l.width) l.columns;
  there : (rows : List Row) × Leaves l.reader rows;
  so_far : SeenOf l.fn.reader l.reader l.width l.fn.columns l.columns;
}

abbrev pub decreases-loop-row : goal.decreases-loop-row
decreases-loop-row l = count_of (bytes_of l.reader)
