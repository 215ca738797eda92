use Rattle.std.proofs.Common.{◌≡◌, take}
use Rattle.weld_pieces.specs.Totals.{totals_in}
use Rattle.weld_eval.proofs.Starting.{neutral_for}
use Rattle.weld_eval.proofs.forms.fresh_totals.Given as goal

abbrev pub invariant-loop-i : goal.invariant-loop-i
invariant-loop-i l = totals_in l.numbers.items ≡ neutral_for l.op (take l.i l.items)
