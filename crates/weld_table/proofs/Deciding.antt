-- Each content gives a table or has a reason not to; and a table is of its type.
use Rattle.std.proofs.Common.{◌≡◌, ◌∙◌, ◌⊎◌, inl, inr, sym, ap, subst, refl, ◌<◌, ◌+◌, ◌==◌, ℕ, pos, zero, suc, Bool, true, false, cond, List, [], ◌∷◌, length, map, Option, Some, None, arith, eq-eqb}
use Rattle.std.specs.List.{All}
use Rattle.std.proofs.lemmas.Bool.{eqb-true, false≢true}
use Rattle.csv.specs.Records.{field_at}
use Rattle.weld_data.specs.declared.kind.Kind.{Kind}
use Rattle.weld_data.specs.declared.kind.Kind.TheVariants as kinds
use Rattle.weld_data.specs.Wrapped.{wrapped}
use Rattle.weld_data.proofs.Wrapping.{IsWrapped-wrapped}
use Rattle.weld_data.specs.Value.{Value, number, struct, values}
use Rattle.weld_tree.specs.TypeTree.{TypeTree, scalar, vec, struct as struct_of, dict, build}
use Rattle.weld_tree.specs.HasValue.{HasValue, AllAre}
use Rattle.weld_values.specs.declared.fault.DataFault.{DataFault}
use Rattle.weld_values.specs.declared.fault.DataFault.TheVariants as faults
use Rattle.weld_values.specs.Reading.{ReadsAs, WhyNot}
use Rattle.weld_values.proofs.Readings.{plain_no_repeat}
use Rattle.weld_values.proofs.Deciding.{reads_or_not}
use Rattle.weld_values.proofs.Typed.{read_typed}
use Rattle.weld_table.specs.declared.wanted.Wanted.{Wanted}
use Rattle.weld_table.specs.declared.wanted.Wanted.TheVariants.{Fields, Named}
use Rattle.weld_table.specs.declared.fault.TableFault.{TableFault}
use Rattle.weld_table.specs.declared.fault.TableFault.TheVariants as reasons
use Rattle.weld_table.specs.Table.{Row, Place, IsCell, HasField, CellReads, CellFails, ColumnReads, ColumnFails, ColumnsRead, SomeFails, HasColumns, AreEven, AreCells, TableReads, TableFails, rows_of, columns_of, placed, place_in, before, named, listed, list_types, type_of_table, bytes_as}
use Rattle.weld_table.proofs.SoFar.{reads_in_form, range_in_form, one_field}
use Rattle.weld_table.proofs.Choosing.{place_below, field_is}

-- ---- a cell reads, or fails by its range, or by its form

data CellIs (t : TypeTree) (field : List ℕ) : Type 0 where
  reads : (v : Value) → CellReads t field v → CellIs t field
  out : CellFails faults.Range t field → CellIs t field
  wrong : CellFails faults.Syntax t field → CellIs t field

scalar_is : (k : Kind) (field : List ℕ) → ((v : Value) × ReadsAs field (scalar k) v) ⊎ ((f : DataFault) × WhyNot field (scalar k) f × (f ≡ faults.Memory → ⊥))
    → CellIs (scalar k) field
scalar_is k field (inl (v, r)) = reads v r
scalar_is k field (inr (faults.Syntax, h, n)) = wrong h
scalar_is k field (inr (faults.Range, h, n)) = out h
scalar_is k field (inr (faults.Repeat, h, n)) = absurd (plain_no_repeat (scalar k) tt h.raw field h.spelled.rest h.spelled.at h.repeats)
scalar_is k field (inr (faults.Memory, h, n)) = absurd (n refl)

list_is : (t : TypeTree) (field : List ℕ) → IsCell (vec t) → CellIs (vec t) field
list_is (scalar kinds.Bool) field c = absurd c
list_is (scalar kinds.I8) field c = reads (bytes_as kinds.I8 field) refl
list_is (scalar kinds.I16) field c = absurd c
list_is (scalar kinds.I32) field c = absurd c
list_is (scalar kinds.I64) field c = absurd c
list_is (scalar kinds.U8) field c = reads (bytes_as kinds.U8 field) refl
list_is (scalar kinds.U16) field c = absurd c
list_is (scalar kinds.U32) field c = absurd c
list_is (scalar kinds.U64) field c = absurd c
list_is (vec t) field c = absurd c
list_is (struct_of ts) field c = absurd c
list_is (dict k t) field c = absurd c
list_is (build b) field c = absurd c

cell_is : (t : TypeTree) (field : List ℕ) → IsCell t → CellIs t field
cell_is (scalar k) field c = scalar_is k field (reads_or_not field (scalar k) tt)
cell_is (vec t) field c = list_is t field c
cell_is (struct_of ts) field c = absurd c
cell_is (dict k t) field c = absurd c
cell_is (build b) field c = absurd c

-- ---- a column does, over even records

-- the column stands in records of this width
abbrev Stands : ℕ → Place → Type 0
Stands width c = (c.at < width) × IsCell c.cell

data ColumnIs (c : Place) (rows : List Row) : Type 0 where
  column_reads : (vs : List Value) → ColumnReads c rows vs → ColumnIs c rows
  column_out : ColumnFails faults.Range c rows → (ColumnFails faults.Syntax c rows → ⊥) → ColumnIs c rows
  column_wrong : ColumnFails faults.Syntax c rows → ColumnIs c rows

reading_in_form : (c : Place) (rows : List Row) (vs : List Value) → ColumnReads c rows vs → ColumnFails faults.Syntax c rows → ⊥
reading_in_form c [] vs r h = h
reading_in_form c (row ∷ rows) vs r (inl h) =
    let f = r.3 in reads_in_form c.cell f.0 r.0 f.2 (one_field (CellFails faults.Syntax c.cell) c row f.0 f.1 h)
reading_in_form c (row ∷ rows) vs r (inr h) = reading_in_form c rows r.1 r.4 h

neither : (c : Place) (row : Row) (rows : List Row) → (HasField (CellFails faults.Syntax c.cell) c row → ⊥) → (ColumnFails faults.Syntax c rows → ⊥)
    → ColumnFails faults.Syntax c (row ∷ rows) → ⊥
neither c row rows f g (inl h) = f h
neither c row rows f g (inr h) = g h

joined : (c : Place) (row : Row) (rows : List Row) (field : List ℕ) → field_at row c.at ≡ Some field → CellIs c.cell field → ColumnIs c rows → ColumnIs c (row ∷ rows)
joined c row rows field e (wrong h) rest = column_wrong (inl (field, e, h))
joined c row rows field e (reads v r) (column_wrong h) = column_wrong (inr h)
joined c row rows field e (out r) (column_wrong h) = column_wrong (inr h)
joined c row rows field e (reads v r) (column_reads vs rs) = column_reads (v ∷ vs) (v, vs, refl, (field, e, r), rs)
joined c row rows field e (reads v r) (column_out h n) =
    column_out (inr h) (neither c row rows (λ g. reads_in_form c.cell field v r (one_field (CellFails faults.Syntax c.cell) c row field e g)) n)
joined c row rows field e (out r) (column_reads vs rs) =
    column_out (inl (field, e, r)) (neither c row rows (λ g. range_in_form c.cell field r (one_field (CellFails faults.Syntax c.cell) c row field e g)) (reading_in_form c rows vs rs))
joined c row rows field e (out r) (column_out h n) =
    column_out (inl (field, e, r)) (neither c row rows (λ g. range_in_form c.cell field r (one_field (CellFails faults.Syntax c.cell) c row field e g)) n)

column_is : (width : ℕ) (c : Place) (rows : List Row) → Stands width c → All (λ (row : Row). length row ≡ width) rows → ColumnIs c rows
column_is width c [] s a = column_reads [] refl
column_is width c (row ∷ rows) s a =
    let wide : length row ≡ width = a 0 row (omega arith) in
    let here : c.at < length row = omega (arith, wide, s.0) in
    let f = field_is row c.at here in
    joined c row rows f.0 f.1 (cell_is c.cell f.0 s.1) (column_is width c rows s (λ k d h. a (suc k) d (omega (arith, h))))

-- ---- all columns do

abbrev AllStand : ℕ → List Place → Type 0
AllStand width [] = Unit {0}
AllStand width (c ∷ cs) = Stands width c × AllStand width cs

data ColumnsAre (cs : List Place) (rows : List Row) : Type 0 where
  all_read : (vss : List (List Value)) → ColumnsRead cs rows vss → ColumnsAre cs rows
  some_out : SomeFails faults.Range cs rows → (SomeFails faults.Syntax cs rows → ⊥) → ColumnsAre cs rows
  some_wrong : SomeFails faults.Syntax cs rows → ColumnsAre cs rows

all_in_form : (cs : List Place) (rows : List Row) (vss : List (List Value)) → ColumnsRead cs rows vss → SomeFails faults.Syntax cs rows → ⊥
all_in_form [] rows vss r h = h
all_in_form (c ∷ cs) rows vss r (inl h) = reading_in_form c rows r.0 r.3 h
all_in_form (c ∷ cs) rows vss r (inr h) = all_in_form cs rows r.1 r.4 h

none_of : (c : Place) (cs : List Place) (rows : List Row) → (ColumnFails faults.Syntax c rows → ⊥) → (SomeFails faults.Syntax cs rows → ⊥)
    → SomeFails faults.Syntax (c ∷ cs) rows → ⊥
none_of c cs rows f g (inl h) = f h
none_of c cs rows f g (inr h) = g h

together : (c : Place) (cs : List Place) (rows : List Row) → ColumnIs c rows → ColumnsAre cs rows → ColumnsAre (c ∷ cs) rows
together c cs rows (column_wrong h) rest = some_wrong (inl h)
together c cs rows (column_reads vs r) (some_wrong h) = some_wrong (inr h)
together c cs rows (column_out r n) (some_wrong h) = some_wrong (inr h)
together c cs rows (column_reads vs r) (all_read vss rs) = all_read (vs ∷ vss) (vs, vss, refl, r, rs)
together c cs rows (column_reads vs r) (some_out h n) = some_out (inr h) (none_of c cs rows (reading_in_form c rows vs r) n)
together c cs rows (column_out r n) (all_read vss rs) = some_out (inl r) (none_of c cs rows n (all_in_form cs rows vss rs))
together c cs rows (column_out r n) (some_out h m) = some_out (inl r) (none_of c cs rows n m)

columns_are : (width : ℕ) (cs : List Place) (rows : List Row) → AllStand width cs → All (λ (row : Row). length row ≡ width) rows → ColumnsAre cs rows
columns_are width [] rows s a = all_read [] refl
columns_are width (c ∷ cs) rows s a = together c cs rows (column_is width c rows s.0 a) (columns_are width cs rows s.1 a)

-- ---- the columns that are found stand in the first record

first_cell : (t : TypeTree) (ts : List TypeTree) → All IsCell (t ∷ ts) → IsCell t
first_cell t ts a = a 0 t (omega arith)

rest_cells : (t : TypeTree) (ts : List TypeTree) → All IsCell (t ∷ ts) → All IsCell ts
rest_cells t ts a k d h = a (suc k) d (omega (arith, h))

placed_stand : (width at : ℕ) (ts : List TypeTree) → at + length ts ≡ width → All IsCell ts → AllStand width (placed at ts)
placed_stand width at [] e a = tt
placed_stand width at (t ∷ ts) e a =
    ((omega (arith, e), first_cell t ts a), placed_stand width (at + 1) ts (omega (arith, e)) (rest_cells t ts a))

abbrev SomeStand : ℕ → Option (List Place) → Type 0
SomeStand width None = Unit {0}
SomeStand width (Some cs) = AllStand width cs

before_stands : (width : ℕ) (o : Option ℕ) (t : TypeTree) (p : Option (List Place)) → ((at : ℕ) → o ≡ Some at → at < width) → IsCell t
    → SomeStand width p → SomeStand width (before o t p)
before_stands width None t p f c s = tt
before_stands width (Some at) t None f c s = tt
before_stands width (Some at) t (Some cs) f c s = ((f at refl, c), s)

named_stand : (header : Row) (names : List (List ℕ)) (ts : List TypeTree) → All IsCell ts → SomeStand (length header) (named header names ts)
named_stand header [] [] a = tt
named_stand header [] (t ∷ ts) a = tt
named_stand header (name ∷ names) [] a = tt
named_stand header (name ∷ names) (t ∷ ts) a =
    before_stands (length header) (place_in name 0 header) t (named header names ts)
    (λ at e. let below : at < 0 + length header = place_below name 0 header at e in omega (arith, below))
    (first_cell t ts a) (named_stand header names ts (rest_cells t ts a))

fields_stand : (header : Row) (ts : List TypeTree) (b : Bool) → (length header == length ts) ≡ b → All IsCell ts
    → SomeStand (length header) (cond b (Some (placed 0 ts)) None)
fields_stand header ts true e a =
    let same : length header ≡ length ts = eqb-true (length header) (length ts) e in
    placed_stand (length header) 0 ts (omega (arith, same)) a
fields_stand header ts false e a = tt

found_stand : (wanted : Wanted) (header : Row) → AreCells wanted → SomeStand (length header) (columns_of wanted header)
found_stand (Fields ts) header a = fields_stand header ts (length header == length ts) refl a
found_stand (Named names ts) header a = named_stand header names ts a

-- ---- the whole content

even_or_not : (width : ℕ) (rows : List Row)
    → All (λ (row : Row). length row ≡ width) rows ⊎ (All (λ (row : Row). length row ≡ width) rows → ⊥)
even_or_not width [] = inl (λ k d h. absurd (omega (arith, h)))
even_or_not width (row ∷ rows) = by (length row == width) refl (even_or_not width rows)
  where
    E : List Row → Type 0
    E = All (λ (row : Row). length row ≡ width)

    both : length row ≡ width → E rows → E (row ∷ rows)
    both e a zero d h = e
    both e a (suc k) d h = a k d (omega (arith, h))

    by : (b : Bool) → (length row == width) ≡ b → E rows ⊎ (E rows → ⊥) → E (row ∷ rows) ⊎ (E (row ∷ rows) → ⊥)
    by false e rest = inr (λ a. not_equal (length row) width e (a 0 row (omega arith)))
      where
        not_equal : (m n : ℕ) → (m == n) ≡ false → m ≡ n → ⊥
        not_equal m n e h = false≢true (sym e ∙ eq-eqb m n h)
    by true e (inl a) = inl (both (eqb-true (length row) width e) a)
    by true e (inr n) = inr (λ a. n (λ k d h. a (suc k) d (omega (arith, h))))

abbrev ReadsOrNot : List ℕ → Wanted → Type 0
ReadsOrNot content wanted = ((v : Value) × TableReads content wanted v) ⊎ ((f : TableFault) × TableFails content wanted f × (f ≡ reasons.Memory → ⊥))

by_columns : (content : List ℕ) (wanted : Wanted) (header : Row) (rows : List Row) (cs : List Place) → HasColumns content wanted header rows cs
    → AreEven header rows → ColumnsAre cs rows → ReadsOrNot content wanted
by_columns content wanted header rows cs there even (all_read vss r) = inl (
  struct (values (map listed vss)),
  record {
    header = header;
    rows = rows;
    columns = cs;
    cells = vss;
    there = there;
    even = even;
    read = r;
    value = refl;
  },
)
by_columns content wanted header rows cs there even (some_out h n) = inr (reasons.Range, (header, rows, cs, there, even, (n, h)), λ e. cc e)
by_columns content wanted header rows cs there even (some_wrong h) = inr (reasons.Syntax, (header, rows, cs, there, even, h), λ e. cc e)

by_even : (content : List ℕ) (wanted : Wanted) (header : Row) (rows : List Row) (cs : List Place) → HasColumns content wanted header rows cs
    → AllStand (length header) cs → AreEven header rows ⊎ (AreEven header rows → ⊥) → ReadsOrNot content wanted
by_even content wanted header rows cs there s (inl even) = by_columns content wanted header rows cs there even (columns_are (length header) cs rows s even)
by_even content wanted header rows cs there s (inr uneven) = inr (reasons.Length, (header, rows, cs, there, uneven), λ e. cc e)

by_choice : (content : List ℕ) (wanted : Wanted) (header : Row) (rows : List Row) → rows_of content ≡ header ∷ rows
    → (o : Option (List Place)) → columns_of wanted header ≡ o → SomeStand (length header) o → ReadsOrNot content wanted
by_choice content wanted header rows split None e s = inr (reasons.Form, inr (header, rows, split, e), λ e. cc e)
by_choice content wanted header rows split (Some cs) e s =
    by_even content wanted header rows cs (record { split = split; found = e }) s (even_or_not (length header) rows)

by_rows : (content : List ℕ) (wanted : Wanted) → AreCells wanted → (all : List Row) → rows_of content ≡ all → ReadsOrNot content wanted
by_rows content wanted a [] e = inr (reasons.Form, inl e, λ e. cc e)
by_rows content wanted a (header ∷ rows) e = by_choice content wanted header rows e (columns_of wanted header) refl (found_stand wanted header a)

pub table_reads_or_not : (content : List ℕ) (wanted : Wanted) → AreCells wanted
    → ((v : Value) × TableReads content wanted v) ⊎ ((f : TableFault) × TableFails content wanted f × (f ≡ reasons.Memory → ⊥))
table_reads_or_not content wanted a = by_rows content wanted a (rows_of content) refl

-- ---- a table is of its type

bytes_typed : (k : Kind) (field : List ℕ) → AllAre (HasValue (scalar k)) (values (map (λ (b : ℕ). number k (wrapped k (pos b))) field))
bytes_typed k [] = tt
bytes_typed k (b ∷ field) = ((refl, (IsWrapped-wrapped k (pos b)).in_range), bytes_typed k field)

list_typed : (t : TypeTree) (field : List ℕ) (v : Value) → CellReads (vec t) field v → HasValue (vec t) v
list_typed (scalar kinds.Bool) field v r = absurd r
list_typed (scalar kinds.I8) field v r = subst (HasValue (vec (scalar kinds.I8))) (sym r) (bytes_typed kinds.I8 field)
list_typed (scalar kinds.I16) field v r = absurd r
list_typed (scalar kinds.I32) field v r = absurd r
list_typed (scalar kinds.I64) field v r = absurd r
list_typed (scalar kinds.U8) field v r = subst (HasValue (vec (scalar kinds.U8))) (sym r) (bytes_typed kinds.U8 field)
list_typed (scalar kinds.U16) field v r = absurd r
list_typed (scalar kinds.U32) field v r = absurd r
list_typed (scalar kinds.U64) field v r = absurd r
list_typed (vec t) field v r = absurd r
list_typed (struct_of ts) field v r = absurd r
list_typed (dict k t) field v r = absurd r
list_typed (build b) field v r = absurd r

cell_typed : (t : TypeTree) (field : List ℕ) (v : Value) → CellReads t field v → HasValue t v
cell_typed (scalar k) field v r = read_typed field (scalar k) v tt r
cell_typed (vec t) field v r = list_typed t field v r
cell_typed (struct_of ts) field v r = absurd r
cell_typed (dict k t) field v r = absurd r
cell_typed (build b) field v r = absurd r

column_typed : (c : Place) (rows : List Row) (vs : List Value) → ColumnReads c rows vs → AllAre (HasValue c.cell) (values vs)
column_typed c [] vs r = subst (λ (xs : List Value). AllAre (HasValue c.cell) (values xs)) (sym r) tt
column_typed c (row ∷ rows) vs r =
    let f = r.3 in
    subst (λ (xs : List Value). AllAre (HasValue c.cell) (values xs)) (sym r.2) (cell_typed c.cell f.0 r.0 f.2, column_typed c rows r.1 r.4)

abbrev cell_of : Place → TypeTree
cell_of c = c.cell

columns_typed : (cs : List Place) (rows : List Row) (vss : List (List Value)) → ColumnsRead cs rows vss
    → HasValue (struct_of (list_types (map cell_of cs))) (struct (values (map listed vss)))
columns_typed [] rows vss r = subst (λ (xs : List (List Value)). HasValue (struct_of (list_types [])) (struct (values (map listed xs)))) (sym r) tt
columns_typed (c ∷ cs) rows vss r =
    subst (λ (xs : List (List Value)). HasValue (struct_of (list_types (map cell_of (c ∷ cs)))) (struct (values (map listed xs)))) (sym r.2)
    (column_typed c rows r.0 r.3, columns_typed cs rows r.1 r.4)

placed_cells : (at : ℕ) (ts : List TypeTree) → map cell_of (placed at ts) ≡ ts
placed_cells at [] = refl
placed_cells at (t ∷ ts) = ap (λ (xs : List TypeTree). t ∷ xs) (placed_cells (at + 1) ts)

abbrev SomeCells : List TypeTree → Option (List Place) → Type 0
SomeCells ts None = Unit {0}
SomeCells ts (Some cs) = map cell_of cs ≡ ts

before_cells : (o : Option ℕ) (t : TypeTree) (ts : List TypeTree) (p : Option (List Place)) → SomeCells ts p → SomeCells (t ∷ ts) (before o t p)
before_cells None t ts p s = tt
before_cells (Some at) t ts None s = tt
before_cells (Some at) t ts (Some cs) s = ap (λ (xs : List TypeTree). t ∷ xs) s

named_cells : (header : Row) (names : List (List ℕ)) (ts : List TypeTree) → SomeCells ts (named header names ts)
named_cells header [] [] = refl
named_cells header [] (t ∷ ts) = tt
named_cells header (name ∷ names) [] = tt
named_cells header (name ∷ names) (t ∷ ts) = before_cells (place_in name 0 header) t ts (named header names ts) (named_cells header names ts)

fields_cells : (ts : List TypeTree) (b : Bool) → SomeCells ts (cond b (Some (placed 0 ts)) None)
fields_cells ts true = placed_cells 0 ts
fields_cells ts false = tt

some_cells : (ts : List TypeTree) (o : Option (List Place)) (cs : List Place) → SomeCells ts o → o ≡ Some cs → map cell_of cs ≡ ts
some_cells ts None cs s e = cc e
some_cells ts (Some ds) cs s e = let same : ds ≡ cs = cc e in ap (map cell_of) (sym same) ∙ s

typed_by : (ts : List TypeTree) (cs : List Place) (v w : Value) → map cell_of cs ≡ ts → v ≡ w → HasValue (struct_of (list_types (map cell_of cs))) w
    → HasValue (struct_of (list_types ts)) v
typed_by ts cs v w e f h = subst (HasValue (struct_of (list_types ts))) (sym f) (subst (λ (us : List TypeTree). HasValue (struct_of (list_types us)) w) e h)

pub table_typed : (content : List ℕ) (wanted : Wanted) (v : Value) → AreCells wanted → TableReads content wanted v → HasValue (type_of_table wanted) v
table_typed content (Fields ts) v a r =
    typed_by ts r.columns v _ (some_cells ts (columns_of (Fields ts) r.header) r.columns (fields_cells ts (length r.header == length ts)) r.there.found) r.value
    (columns_typed r.columns r.rows r.cells r.read)
table_typed content (Named names ts) v a r =
    typed_by ts r.columns v _ (some_cells ts (named r.header names ts) r.columns (named_cells r.header names ts) r.there.found) r.value
    (columns_typed r.columns r.rows r.cells r.read)
