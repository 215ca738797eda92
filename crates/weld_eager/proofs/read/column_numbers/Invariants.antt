use Rattle.std.proofs.Common.{◌≡◌, map, take, length}
use Rattle.weld_data.specs.View.{view_column}
use Rattle.weld_calls.specs.Lists.{number_in}
use Rattle.weld_eager.proofs.read.column_numbers.Given as goal

abbrev pub invariant-loop-place : goal.invariant-loop-place
invariant-loop-place l =
    (l.numbers.items ≡ map number_in (take l.place (view_column l.column)))
    × (l.count ≡ length (view_column l.column))
