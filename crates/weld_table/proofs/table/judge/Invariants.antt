use Rattle.weld_table.proofs.Finishing.{IsWorst}
use Rattle.weld_table.proofs.table.judge.Given as goal

abbrev pub invariant-loop-column : goal.invariant-loop-column
invariant-loop-column l = IsWorst l.columns l.column-index l.verdict
