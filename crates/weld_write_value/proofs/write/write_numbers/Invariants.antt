use Rattle.std.proofs.Common.{◌≡◌, ◌++◌, drop}
use Rattle.weld_data.specs.View.{view_column}
use Rattle.weld_write_value.specs.Showing.{strung}
use Rattle.weld_write_value.proofs.write.write_numbers.Given as goal

abbrev pub invariant-items : goal.invariant-items
invariant-items l = l.out ++ strung (drop l.i (view_column l.column)) ≡ l.fn.out ++ strung (view_column l.column)
