-- A call takes at most three arguments.
use Rattle.std.proofs.Common.{◌≤◌, length, arith}
use Rattle.weld_calls.specs.declared.call.Call.{Call}
use Rattle.weld_calls.specs.declared.call.Call.TheVariants.{Add, Sub, Mul, Scale, Where, Dot, Sum, Min, Max, Slice, Take, Histogram, RowsDot, Column, Filter, Compare, Arith, Count, GroupSum, GroupList, GroupCount}
use Rattle.weld_calls.specs.CallTypes.{row}

pub row_is_short : (call : Call) → length (row call) ≤ 3
row_is_short Add = omega arith
row_is_short Sub = omega arith
row_is_short Mul = omega arith
row_is_short Scale = omega arith
row_is_short Where = omega arith
row_is_short Dot = omega arith
row_is_short Sum = omega arith
row_is_short Min = omega arith
row_is_short Max = omega arith
row_is_short Slice = omega arith
row_is_short Take = omega arith
row_is_short Histogram = omega arith
row_is_short RowsDot = omega arith
row_is_short (Column n) = omega arith
row_is_short Filter = omega arith
row_is_short (Compare op) = omega arith
row_is_short (Arith op) = omega arith
row_is_short Count = omega arith
row_is_short GroupSum = omega arith
row_is_short GroupList = omega arith
row_is_short GroupCount = omega arith
