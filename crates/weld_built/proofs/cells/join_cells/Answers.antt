use Rattle.weld_built.specs.CellsState.{part_of_cells_state}
use Rattle.weld_built.proofs.CellsLemmas.{bare_later}
use Rattle.weld_built.proofs.cells.join_cells.Goals as goal

pub returns-in-Bare-clause-joined : goal.returns-in-Bare-clause-joined
returns-in-Bare-clause-joined c =
    bare_later (part_of_cells_state c.args.cells.now) c.args.later c.in-Bare.field-0 c.in-Bare.field-1 c.in-Bare.is c.requires.shape c.requires.in_range
