use Rattle.std.proofs.Common.{◌≡◌, take}
use Rattle.weld_data.specs.View.{view_column}
use Rattle.weld_data.proofs.value.order.compare_numbers.Given as goal

abbrev pub invariant-loop-i : goal.invariant-loop-i
invariant-loop-i l = take l.i (view_column l.a) ≡ take l.i (view_column l.b)
