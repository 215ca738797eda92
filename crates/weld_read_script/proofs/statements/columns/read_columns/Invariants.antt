use Rattle.weld_read_script.proofs.Joining.{ReadTo}
use Rattle.weld_read_script.proofs.statements.columns.read_columns.Given as goal

abbrev pub invariant-loop-part : goal.invariant-loop-part
invariant-loop-part l = ReadTo l.parts l.part-index l.names l.cells
