-- What a row of a loop that isn't built stands for.
use Rattle.weld_data.specs.Value.{Value}
use Rattle.weld_eval.specs.declared.row.RowAt.{RowAt}
use Rattle.weld_eval.specs.LegsView.{lists_of}
use Rattle.weld_eval.specs.RowLists.{row_in}

abbrev pub row_value : RowAt → Value
row_value r = row_in (lists_of r.legs.now) r.number
