use Rattle.std.proofs.Common.{◌≡◌, map, take}
use Rattle.weld_pieces.specs.Totals.{totals_in, number_in}
use Rattle.weld_pieces.proofs.totals.fields_of.Given as goal

abbrev pub invariant-loop-i : goal.invariant-loop-i
invariant-loop-i l = l.fields ≡ map number_in (totals_in (take l.i l.totals))
