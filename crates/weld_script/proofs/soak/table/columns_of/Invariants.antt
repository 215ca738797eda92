use Rattle.weld_script.proofs.Rows.{SoFar}
use Rattle.weld_script.proofs.soak.table.columns_of.Given as goal

abbrev pub invariant-loop-i : goal.invariant-loop-i
invariant-loop-i l = SoFar l.fn.seed l.fn.rows l.i l.number l.columns.k l.columns.x l.columns.y
