use Rattle.std.proofs.Common.{sym}
use Rattle.weld_built.proofs.CellsLemmas.{bare_shape}
use Rattle.weld_built.proofs.cells.shape_of_cells.Goals as goal

pub returns-in-Bare-clause-shape : goal.returns-in-Bare-clause-shape
returns-in-Bare-clause-shape c = sym (bare_shape c.args.cells.now c.in-Bare.field-0 c.in-Bare.shape c.in-Bare.is)
