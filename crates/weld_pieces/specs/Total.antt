-- A total and cells in the code.
use Rattle.std.specs.Prelude.{ℤ, List, [], ◌∷◌}
use Rattle.weld_data.specs.declared.kind.Kind.{Kind}
use Rattle.weld_data.specs.declared.op.MergeOp.{MergeOp}
use Rattle.weld_data.specs.Kind.{IsInteger, InRange}
use Rattle.weld_data.specs.Operation.{combination}
use Rattle.weld_builders.specs.Part.{Part, total_part, cells_part}
use Rattle.weld_builders.specs.Range.{AllInRange}

pub record Total : Type 0 where
  pub op : MergeOp
  pub kind : Kind
  pub value : ℤ

abbrev pub part_of_total : Total → Part
part_of_total t = total_part t.op t.kind t.value

-- its kind is one of integers, and its number lies in the range
pub record IsTotal (kind : Kind) (x : ℤ) : Type 0 where
  pub integer : IsInteger kind
  pub in_range : InRange kind x

pub record Cells : Type 0 where
  pub op : MergeOp
  pub kind : Kind
  pub cells : List ℤ

abbrev pub part_of_cells : Cells → Part
part_of_cells c = cells_part c.op c.kind c.cells

-- their kind is one of integers, and they lie in the range
pub record AreCells (kind : Kind) (xs : List ℤ) : Type 0 where
  pub integer : IsInteger kind
  pub in_range : AllInRange kind xs

-- a number with others combined into it, one after another
abbrev pub combined_all : MergeOp → Kind → ℤ → List ℤ → ℤ
combined_all op kind x [] = x
combined_all op kind x (y ∷ ys) = combined_all op kind (combination op kind x y) ys
