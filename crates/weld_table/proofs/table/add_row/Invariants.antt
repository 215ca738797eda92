use Rattle.std.proofs.Common.{◌≡◌, ◌<◌, ◌≤◌, ℕ, length, get_or}
use Rattle.csv.specs.Records.{fields_of}
use Rattle.weld_table.specs.declared.column.TableColumn.{TableColumn}
use Rattle.weld_table.specs.Cells.{HasGrown}
use Rattle.weld_table.proofs.table.add_row.Given as goal

abbrev pub invariant-loop-column : goal.invariant-loop-column
invariant-loop-column l = record {
  same : length l.columns ≡ length l.fn.columns;
  read : (k : ℕ) (d : TableColumn) → k < l.column-index → HasGrown (fields_of l.row) (get_or l.fn.columns k d) (get_or l.columns k d);
  left : (k : ℕ) (d : TableColumn) → l.column-index ≤ k → get_or l.columns k d ≡ get_or l.fn.columns k d;
}
