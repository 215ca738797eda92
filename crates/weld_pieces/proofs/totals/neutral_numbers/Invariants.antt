use Rattle.std.proofs.Common.{◌≡◌, take}
use Rattle.weld_builders.specs.Part.{kinds_of, neutral_totals}
use Rattle.weld_pieces.specs.Totals.{totals_in}
use Rattle.weld_pieces.proofs.totals.neutral_numbers.Given as goal

abbrev pub invariant-loop-i : goal.invariant-loop-i
invariant-loop-i l = totals_in l.numbers.items ≡ neutral_totals l.op (kinds_of (totals_in (take l.i l.totals)))
