use Rattle.std.proofs.Common.{◌≡◌}
use Rattle.weld_pieces.specs.Totals.{totals_in}
use Rattle.weld_pieces.proofs.TotalLemmas.{partly, row_of}
use Rattle.weld_pieces.proofs.totals.add_words.Given as goal

abbrev pub invariant-loop-i : goal.invariant-loop-i
invariant-loop-i l = totals_in l.totals ≡ partly l.op (totals_in l.initial.totals) (row_of l.initial.totals l.words) l.i
