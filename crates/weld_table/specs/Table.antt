-- Which value a table gives, and else why it gives none. A table's content is records of fields, as
-- the library csv reads them; its first record has the names of the columns.
use Rattle.std.specs.Prelude.{◌≡◌, ◌⊎◌, ◌+◌, ◌==◌, ℕ, pos, if◌then◌else◌, List, [], ◌∷◌, length, map, Option, Some, None}
use Rattle.std.specs.List.{All}
use Rattle.std.specs.Str.{bytes_eq}
use Rattle.csv.specs.Reading.{records, default_config, strip_bom}
use Rattle.csv.specs.Records.{field_at}
use Rattle.weld_data.specs.declared.kind.Kind.{Kind}
use Rattle.weld_data.specs.declared.kind.Kind.TheVariants.{I8, U8}
use Rattle.weld_data.specs.Wrapped.{wrapped}
use Rattle.weld_data.specs.Value.{Value, number, list, struct, values}
use Rattle.weld_tree.specs.TypeTree.{TypeTree, TypeTrees, scalar, vec, struct as struct_of, no_types, more_types, unpack}
use Rattle.weld_values.specs.declared.fault.DataFault.{DataFault}
use Rattle.weld_values.specs.declared.fault.DataFault.TheVariants as faults
use Rattle.weld_values.specs.Reading.{ReadsAs, WhyNot}
use Rattle.weld_table.specs.declared.wanted.Wanted.{Wanted}
use Rattle.weld_table.specs.declared.wanted.Wanted.TheVariants.{Fields, Named}
use Rattle.weld_table.specs.declared.fault.TableFault.{TableFault}
use Rattle.weld_table.specs.declared.fault.TableFault.TheVariants.{Form, Length, Syntax, Range, Memory}

-- ---- records

-- a record: its fields, each a list of bytes
abbrev pub Row : Type 0
Row = List (List ℕ)

-- the records of some bytes, as csv reads them; a byte-order mark at the front is left out
abbrev pub rows_of : List ℕ → List Row
rows_of bytes = records default_config (strip_bom bytes)

-- ---- cells

-- what cells may be: scalars, or bytes as numbers of kind i8 or u8
abbrev pub IsCell : TypeTree → Type 0
IsCell (scalar k) = Unit {0}
IsCell (vec (scalar I8)) = Unit {0}
IsCell (vec (scalar U8)) = Unit {0}
IsCell _ = ⊥

-- bytes as a list of numbers of a kind
abbrev pub bytes_as : Kind → List ℕ → Value
bytes_as k field = list (values (map (λ (b : ℕ). number k (wrapped k (pos b))) field))

-- a field reads as this cell of the type: a scalar as a value's text does, and bytes as they stand, modulo 256
abbrev pub CellReads : TypeTree → List ℕ → Value → Type 0
CellReads (scalar k) field v = ReadsAs field (scalar k) v
CellReads (vec (scalar I8)) field v = v ≡ bytes_as I8 field
CellReads (vec (scalar U8)) field v = v ≡ bytes_as U8 field
CellReads _ field v = ⊥

-- a field is no cell of the type, for this reason: bytes always are one
abbrev pub CellFails : DataFault → TypeTree → List ℕ → Type 0
CellFails fault (scalar k) field = WhyNot field (scalar k) fault
CellFails fault _ field = ⊥

-- ---- columns

-- a column: the place of its fields in the records, and the type of its cells
pub record Place : Type 0 where
  pub at : ℕ
  pub cell : TypeTree

-- the column's field of a record is so
abbrev pub HasField : (List ℕ → Type 0) → Place → Row → Type 0
HasField P c row = (field : List ℕ) × (field_at row c.at ≡ Some field) × P field

-- the column's cells, record by record
abbrev pub ColumnReads : Place → List Row → List Value → Type 0
ColumnReads c [] vs = vs ≡ []
ColumnReads c (row ∷ rows) vs =
    (v : Value) × (ws : List Value) × (vs ≡ v ∷ ws) × HasField (λ field. CellReads c.cell field v) c row × ColumnReads c rows ws

-- some field of the column is no cell, for this reason
abbrev pub ColumnFails : DataFault → Place → List Row → Type 0
ColumnFails fault c [] = ⊥
ColumnFails fault c (row ∷ rows) = HasField (CellFails fault c.cell) c row ⊎ ColumnFails fault c rows

-- the cells of the columns, one after another
abbrev pub ColumnsRead : List Place → List Row → List (List Value) → Type 0
ColumnsRead [] rows vss = vss ≡ []
ColumnsRead (c ∷ cs) rows vss =
    (vs : List Value) × (more : List (List Value)) × (vss ≡ vs ∷ more) × ColumnReads c rows vs × ColumnsRead cs rows more

-- some field of some column is no cell, for this reason
abbrev pub SomeFails : DataFault → List Place → List Row → Type 0
SomeFails fault [] rows = ⊥
SomeFails fault (c ∷ cs) rows = ColumnFails fault c rows ⊎ SomeFails fault cs rows

-- ---- which columns

-- the columns of these types, from this place on
abbrev pub placed : ℕ → List TypeTree → List Place
placed at [] = []
placed at (t ∷ ts) = record { at = at; cell = t } ∷ placed (at + 1) ts

-- the place of the first field that is the name, where the first of these is at that place
abbrev pub place_in : List ℕ → ℕ → Row → Option ℕ
place_in name at [] = None
place_in name at (field ∷ fields) = if bytes_eq name field then Some at else place_in name (at + 1) fields

-- a column before the others, where both are there
abbrev pub before : Option ℕ → TypeTree → Option (List Place) → Option (List Place)
before (Some at) t (Some cs) = Some (record { at = at; cell = t } ∷ cs)
before (Some at) t None = None
before None t cs = None

-- the columns of these names: of each the first field of the first record that equals it
abbrev pub named : Row → List (List ℕ) → List TypeTree → Option (List Place)
named header [] [] = Some []
named header [] (t ∷ ts) = None
named header (name ∷ names) [] = None
named header (name ∷ names) (t ∷ ts) = before (place_in name 0 header) t (named header names ts)

-- the wanted columns of a table with this first record: as many as it has fields; or those of the names
abbrev pub columns_of : Wanted → Row → Option (List Place)
columns_of (Fields ts) header = if length header == length ts then Some (placed 0 ts) else None
columns_of (Named names ts) header = named header names ts

-- the cells of the wanted columns are of types that cells may have
abbrev pub AreCells : Wanted → Type 0
AreCells (Fields ts) = All IsCell ts
AreCells (Named names ts) = All IsCell ts

-- ---- tables

-- the content has a first record, in which the wanted columns stand, and these records behind it
pub record HasColumns (content : List ℕ) (wanted : Wanted) (header : Row) (rows : List Row) (cs : List Place) : Type 0 where
  pub split : rows_of content ≡ header ∷ rows
  pub found : columns_of wanted header ≡ Some cs

-- each record has as many fields as the first
abbrev pub AreEven : Row → List Row → Type 0
AreEven header rows = All (λ (row : Row). length row ≡ length header) rows

-- the list of a column's cells
abbrev pub listed : List Value → Value
listed vs = list (values vs)

-- the content gives this value: the struct of the wanted columns
pub record TableReads (content : List ℕ) (wanted : Wanted) (v : Value) : Type 0 where
  pub header : Row
  pub rows : List Row
  pub columns : List Place
  pub cells : List (List Value)
  pub there : HasColumns content wanted header rows columns
  pub even : AreEven header rows
  pub read : ColumnsRead columns rows cells
  pub value : v ≡ struct (values (map listed cells))

-- the columns are there and the records are even, and this holds of them
abbrev pub OfTable : List ℕ → Wanted → (List Place → List Row → Type 0) → Type 0
OfTable content wanted P =
    (header : Row) × (rows : List Row) × (cs : List Place) × HasColumns content wanted header rows cs × AreEven header rows × P cs rows

-- the type of a table: the struct of its columns' lists
abbrev pub list_types : List TypeTree → TypeTrees
list_types [] = no_types
list_types (t ∷ ts) = more_types (vec t) (list_types ts)

abbrev pub type_of_table : Wanted → TypeTree
type_of_table (Fields ts) = struct_of (list_types ts)
type_of_table (Named names ts) = struct_of (list_types ts)

-- a vector's items, where they are cells
abbrev pub cell_in : TypeTree → Option TypeTree
cell_in (vec (scalar k)) = Some (scalar k)
cell_in (vec (vec (scalar I8))) = Some (vec (scalar I8))
cell_in (vec (vec (scalar U8))) = Some (vec (scalar U8))
cell_in _ = None

-- a cell's type before others, where all are there
abbrev pub cell_before : Option TypeTree → Option (List TypeTree) → Option (List TypeTree)
cell_before (Some t) (Some ts) = Some (t ∷ ts)
cell_before (Some t) None = None
cell_before None ts = None

abbrev pub cells_in : List TypeTree → Option (List TypeTree)
cells_in [] = Some []
cells_in (t ∷ ts) = cell_before (cell_in t) (cells_in ts)

-- the types of a table type's cells, column by column: it is a struct of vectors of cells
abbrev pub columns_in : TypeTree → Option (List TypeTree)
columns_in (struct_of ts) = cells_in (unpack ts)
columns_in _ = None

-- a type's columns, wanted by position; none where it is no table type
abbrev pub IsWantedBy : Option (List TypeTree) → Option Wanted → Type 0
IsWantedBy None None = Unit {0}
IsWantedBy None (Some wanted) = ⊥
IsWantedBy (Some ts) None = ⊥
IsWantedBy (Some ts) (Some wanted) = wanted ≡ Fields ts

-- why the content gives no value: no record stands there, or a wanted column doesn't; else a record has another number of
-- fields than the first; else a wanted field isn't in form; else one is out of range. Of want of memory nothing is said
abbrev pub TableFails : List ℕ → Wanted → TableFault → Type 0
TableFails content wanted Form =
    (rows_of content ≡ []) ⊎ ((header : Row) × (rows : List Row) × (rows_of content ≡ header ∷ rows) × (columns_of wanted header ≡ None))
TableFails content wanted Length =
    (header : Row) × (rows : List Row) × (cs : List Place) × HasColumns content wanted header rows cs × (AreEven header rows → ⊥)
TableFails content wanted Syntax = OfTable content wanted (SomeFails faults.Syntax)
TableFails content wanted Range =
    OfTable content wanted (λ cs rows. (SomeFails faults.Syntax cs rows → ⊥) × SomeFails faults.Range cs rows)
TableFails content wanted Memory = Unit {0}
