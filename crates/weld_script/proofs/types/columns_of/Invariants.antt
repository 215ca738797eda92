use Rattle.std.proofs.Common.{◌≡◌, map, take}
use Rattle.weld_tree.specs.TypeTree.{vec}
use Rattle.weld_script.proofs.types.columns_of.Given as goal

abbrev pub invariant-loop-cell : goal.invariant-loop-cell
invariant-loop-cell l = l.types ≡ map vec (take l.cell-index l.cells)
