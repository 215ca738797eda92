use Rattle.weld_pieces.specs.Total.{part_of_cells}
use Rattle.weld_built.proofs.CellsLemmas.{bare_earlier}
use Rattle.weld_built.proofs.cells.append.Goals as goal

pub returns-in-Bare-clause-joined : goal.returns-in-Bare-clause-joined
returns-in-Bare-clause-joined c =
    bare_earlier (part_of_cells c.args.later) c.args.cells.now c.in-Bare.field-0 c.in-Bare.field-1 c.in-Bare.is c.requires.shape c.shape-shape.ensures.in_range
