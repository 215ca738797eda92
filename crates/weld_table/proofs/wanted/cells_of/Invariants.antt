use Rattle.weld_table.proofs.TableTypes.{AreFound}
use Rattle.weld_table.proofs.wanted.cells_of.Given as goal

abbrev pub invariant-loop-field : goal.invariant-loop-field
invariant-loop-field l = AreFound l.fields l.field-index l.types
