use Rattle.std.proofs.Common.{◌≡◌, map, take}
use Rattle.weld_pieces.specs.Totals.{totals_in, number_in}
use Rattle.weld_built.proofs.totals.numbers_of.Given as goal

abbrev pub invariant-loop-i : goal.invariant-loop-i
invariant-loop-i l = map number_in (totals_in l.numbers.items) ≡ take l.i l.fields
