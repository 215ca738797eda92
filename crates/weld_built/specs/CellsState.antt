-- What cells in the code stand for.
use Rattle.weld_data.specs.declared.kind.Kind.{Kind}
use Rattle.weld_data.specs.Kind.{IsInteger}
use Rattle.weld_builders.specs.Part.{Part, cells_shape, start_part}
use Rattle.weld_pieces.specs.Total.{part_of_cells}
use Rattle.weld_built.specs.declared.cells.Cells.{Cells}
use Rattle.weld_built.specs.declared.cells.Cells.TheVariants as cells

abbrev pub part_of_cells_state : Cells → Part
part_of_cells_state (cells.Bare alloc s) = start_part (cells_shape s.op s.kind s.count)
part_of_cells_state (cells.Kept c) = part_of_cells c

abbrev pub kind_of_cells : Cells → Kind
kind_of_cells (cells.Bare alloc s) = s.kind
kind_of_cells (cells.Kept c) = c.kind

-- numbers that are combined are of an integer kind
abbrev pub AreFormed : Cells → Type 0
AreFormed (cells.Bare alloc s) = IsInteger s.kind
AreFormed (cells.Kept c) = Unit {0}
