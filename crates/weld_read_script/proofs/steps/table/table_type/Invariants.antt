use Rattle.std.proofs.Common.{◌≡◌, take, map}
use Rattle.weld_tree.specs.TypeTree.{vec}
use Rattle.weld_read_script.proofs.steps.table.table_type.Given as goal

abbrev pub invariant-loop-cell : goal.invariant-loop-cell
invariant-loop-cell l = l.fields ≡ map vec (take l.cell-index l.cells)
