-- What the program's columns hold while a table is read.
use Rattle.std.specs.Prelude.{◌≡◌, ◌<◌, ◌++◌, ℕ, pos, Bool, List, [], ◌∷◌, map, length, Option, Some, None, Result, Ok, Err}
use Rattle.std.specs.List.{All, AllZip}
use Rattle.weld_data.specs.Operation.{truth}
use Rattle.weld_data.specs.declared.kind.Kind.TheVariants as kinds
use Rattle.weld_data.specs.Value.{Value, number}
use Rattle.weld_tree.specs.TypeTree.{TypeTree, scalar, vec}
use Rattle.weld_values.specs.declared.fault.DataFault.{DataFault}
use Rattle.weld_values.specs.declared.fault.DataFault.TheVariants as faults
use Rattle.weld_table.specs.Table.{Row, Place, CellReads, CellFails, ColumnReads, ColumnFails, HasColumns, AreEven, listed}
use Rattle.weld_table.specs.declared.cells.Cells.{Cells}
use Rattle.weld_table.specs.declared.cells.Cells.TheVariants.{Bool as truths, I8, I16, I32, I64, U8, U16, U32, U64, Bytes, Octets}
use Rattle.weld_table.specs.declared.fault.TableFault.{TableFault}
use Rattle.weld_table.specs.declared.fault.TableFault.TheVariants as reasons
use Rattle.weld_table.specs.declared.wanted.Wanted.{Wanted}
use Rattle.weld_table.specs.declared.verdict.Verdict.{Verdict}
use Rattle.weld_table.specs.declared.verdict.Verdict.TheVariants.{Fine, Range, Syntax}
use Rattle.weld_table.specs.declared.column.TableColumn.{TableColumn}

-- the type of the cells
abbrev pub type_of : Cells → TypeTree
type_of (truths items) = scalar kinds.Bool
type_of (I8 items) = scalar kinds.I8
type_of (I16 items) = scalar kinds.I16
type_of (I32 items) = scalar kinds.I32
type_of (I64 items) = scalar kinds.I64
type_of (U8 items) = scalar kinds.U8
type_of (U16 items) = scalar kinds.U16
type_of (U32 items) = scalar kinds.U32
type_of (U64 items) = scalar kinds.U64
type_of (Bytes items) = vec (scalar kinds.I8)
type_of (Octets items) = vec (scalar kinds.U8)

-- the cells as values
abbrev pub view_cells : Cells → List Value
view_cells (truths items) = map (λ (b : Bool). number kinds.Bool (truth b)) items
view_cells (I8 items) = map (number kinds.I8) items
view_cells (I16 items) = map (number kinds.I16) items
view_cells (I32 items) = map (number kinds.I32) items
view_cells (I64 items) = map (number kinds.I64) items
view_cells (U8 items) = map (λ (n : ℕ). number kinds.U8 (pos n)) items
view_cells (U16 items) = map (λ (n : ℕ). number kinds.U16 (pos n)) items
view_cells (U32 items) = map (λ (n : ℕ). number kinds.U32 (pos n)) items
view_cells (U64 items) = map (λ (n : ℕ). number kinds.U64 (pos n)) items
view_cells (Bytes items) = items
view_cells (Octets items) = items

-- what is said of a cell by the reason why it is none
abbrev pub IsSaidOf : DataFault → Verdict → Type 0
IsSaidOf faults.Syntax w = w ≡ Syntax
IsSaidOf faults.Range w = w ≡ Range
IsSaidOf faults.Repeat w = ⊥
IsSaidOf faults.Memory w = ⊥

-- a field was read as a cell of the type and appended to these, or is none
abbrev pub IsAdded : TypeTree → List ℕ → List Value → List Value → Verdict → Type 0
IsAdded t field old new Fine = (v : Value) × CellReads t field v × (new ≡ old ++ v ∷ [])
IsAdded t field old new Range = CellFails faults.Range t field
IsAdded t field old new Syntax = CellFails faults.Syntax t field

-- a column's place
abbrev pub place_of : TableColumn → Place
place_of c = record { at = c.place; cell = type_of c.cells }

-- what a column has read of some records: their cells; or a field that isn't in form; or else one that is out of range
abbrev pub HasRead : Verdict → Place → List Row → List Value → Type 0
HasRead Fine c rows vs = ColumnReads c rows vs
HasRead Range c rows vs = ColumnFails faults.Range c rows × (ColumnFails faults.Syntax c rows → ⊥)
HasRead Syntax c rows vs = ColumnFails faults.Syntax c rows

abbrev pub IsSoFar : List Row → TableColumn → Type 0
IsSoFar rows c = HasRead c.verdict (place_of c) rows (view_cells c.cells)

-- what is said of cells and of one more
abbrev pub worse : Verdict → Verdict → Verdict
worse Fine w = w
worse Range Fine = Range
worse Range Range = Range
worse Range Syntax = Syntax
worse Syntax w = Syntax

-- a column's place is below this number of fields
abbrev pub StandsBelow : ℕ → TableColumn → Type 0
StandsBelow count c = c.place < count

-- a column read its field of one record more
abbrev pub HasGrown : Row → TableColumn → TableColumn → Type 0
HasGrown row old new = (place_of new ≡ place_of old) × ((rows : List Row) → IsSoFar rows old → IsSoFar (rows ++ row ∷ []) new)

-- each record has this number of fields
abbrev pub AreWide : ℕ → List Row → Type 0
AreWide width rows = All (λ (row : Row). length row ≡ width) rows

-- a column read its fields of these records more
abbrev pub HasGrownBy : List Row → TableColumn → TableColumn → Type 0
HasGrownBy rows old new =
    (place_of new ≡ place_of old) × ((before : List Row) → IsSoFar before old → IsSoFar (before ++ rows) new)

-- the columns read these records, each as wide as it must be
abbrev pub RowsRead : ℕ → List Row → List TableColumn → List TableColumn → Type 0
RowsRead width rows old new = AreWide width rows × AllZip (HasGrownBy rows) old new

-- a record has another number of fields; of want of memory nothing is said
abbrev pub IsUneven : ℕ → List Row → TableFault → Type 0
IsUneven width rows reasons.Length = AreWide width rows → ⊥
IsUneven width rows reasons.Memory = Unit {0}
IsUneven width rows reasons.Form = ⊥
IsUneven width rows reasons.Syntax = ⊥
IsUneven width rows reasons.Range = ⊥

-- a column that has read nothing yet, whose place is below this number of fields
abbrev pub IsNew : ℕ → TableColumn → Type 0
IsNew width c = (c.verdict ≡ Fine) × (view_cells c.cells ≡ []) × StandsBelow width c

-- new columns at these places
abbrev pub AreNew : ℕ → List Place → List TableColumn → Type 0
AreNew width places columns = (map place_of columns ≡ places) × All (IsNew width) columns

-- new columns at these places, where there are such
abbrev pub AreChosen : ℕ → Option (List Place) → Option (List TableColumn) → Type 0
AreChosen width None None = Unit {0}
AreChosen width None (Some columns) = ⊥
AreChosen width (Some places) None = ⊥
AreChosen width (Some places) (Some columns) = AreNew width places columns

-- what is said of all columns: the worst
abbrev pub worst_of : Verdict → List TableColumn → Verdict
worst_of w [] = w
worst_of w (c ∷ cs) = worst_of (worse w c.verdict) cs

-- the cells of a column as a value
abbrev pub listed_of : TableColumn → Value
listed_of c = listed (view_cells c.cells)

-- an answer by what is said of the columns
abbrev pub IsJudged : {A : Type 0} → Verdict → Result A TableFault → Type 0
IsJudged Fine (Ok x) = Unit {0}
IsJudged Fine (Err fault) = ⊥
IsJudged Range (Ok x) = ⊥
IsJudged Range (Err fault) = fault ≡ reasons.Range
IsJudged Syntax (Ok x) = ⊥
IsJudged Syntax (Err fault) = fault ≡ reasons.Syntax

-- all records behind the first were read into the columns that were chosen
pub record AllRead (content : List ℕ) (wanted : Wanted) (columns : List TableColumn) : Type 0 where
  pub header : Row
  pub rows : List Row
  pub there : HasColumns content wanted header rows (map place_of columns)
  pub even : AreEven header rows
  pub read : All (IsSoFar rows) columns
