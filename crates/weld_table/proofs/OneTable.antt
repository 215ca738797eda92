-- A content gives one value or has one reason not to.
use Rattle.std.proofs.Common.{◌≡◌, ◌∙◌, ◌⊎◌, inl, inr, sym, ap, subst, refl, ℕ, List, [], ◌∷◌, map, Some, None}
use Rattle.weld_data.specs.declared.kind.Kind.TheVariants as kinds
use Rattle.weld_data.specs.Value.{Value, struct, values}
use Rattle.weld_tree.specs.TypeTree.{TypeTree, scalar, vec, struct as struct_of, dict, build}
use Rattle.weld_values.specs.declared.fault.DataFault.{DataFault}
use Rattle.weld_values.specs.declared.fault.DataFault.TheVariants as faults
use Rattle.weld_values.specs.Reading.{IsInRange}
use Rattle.weld_values.proofs.Readings.{one_spelling}
use Rattle.weld_values.proofs.OneReading.{one_reading}
use Rattle.weld_table.specs.declared.wanted.Wanted.{Wanted}
use Rattle.weld_table.specs.declared.fault.TableFault.{TableFault}
use Rattle.weld_table.specs.declared.fault.TableFault.TheVariants as reasons
use Rattle.weld_table.specs.Table.{Row, Place, CellReads, CellFails, ColumnReads, ColumnFails, ColumnsRead, SomeFails, HasColumns, AreEven, OfTable, TableReads, TableFails, columns_of, listed}
use Rattle.weld_table.proofs.SoFar.{reads_in_form, one_field}

some_is : {A : Type 0} (x y : A) → Some x ≡ Some y → x ≡ y
some_is x y h = cc h

-- ---- one value

list_cell : (t : TypeTree) (field : List ℕ) (v w : Value) → CellReads (vec t) field v → CellReads (vec t) field w → v ≡ w
list_cell (scalar kinds.Bool) field v w r s = absurd r
list_cell (scalar kinds.I8) field v w r s = r ∙ sym s
list_cell (scalar kinds.I16) field v w r s = absurd r
list_cell (scalar kinds.I32) field v w r s = absurd r
list_cell (scalar kinds.I64) field v w r s = absurd r
list_cell (scalar kinds.U8) field v w r s = r ∙ sym s
list_cell (scalar kinds.U16) field v w r s = absurd r
list_cell (scalar kinds.U32) field v w r s = absurd r
list_cell (scalar kinds.U64) field v w r s = absurd r
list_cell (vec t) field v w r s = absurd r
list_cell (struct_of ts) field v w r s = absurd r
list_cell (dict k t) field v w r s = absurd r
list_cell (build b) field v w r s = absurd r

one_cell : (t : TypeTree) (field : List ℕ) (v w : Value) → CellReads t field v → CellReads t field w → v ≡ w
one_cell (scalar k) field v w r s = one_reading field (scalar k) v w r s
one_cell (vec t) field v w r s = list_cell t field v w r s
one_cell (struct_of ts) field v w r s = absurd r
one_cell (dict k t) field v w r s = absurd r
one_cell (build b) field v w r s = absurd r

one_column : (c : Place) (rows : List Row) (vs ws : List Value) → ColumnReads c rows vs → ColumnReads c rows ws → vs ≡ ws
one_column c [] vs ws r s = r ∙ sym s
one_column c (row ∷ rows) vs ws r s =
    let f = r.3 in
    let here : r.0 ≡ s.0 = one_cell c.cell f.0 r.0 s.0 f.2 (one_field (λ field. CellReads c.cell field s.0) c row f.0 f.1 s.3) in
    let rest : r.1 ≡ s.1 = one_column c rows r.1 s.1 r.4 s.4 in
    r.2 ∙ ap (λ (v : Value). v ∷ r.1) here ∙ ap (λ (xs : List Value). s.0 ∷ xs) rest ∙ sym s.2

one_each : (cs : List Place) (rows : List Row) (vss wss : List (List Value)) → ColumnsRead cs rows vss → ColumnsRead cs rows wss → vss ≡ wss
one_each [] rows vss wss r s = r ∙ sym s
one_each (c ∷ cs) rows vss wss r s =
    let here : r.0 ≡ s.0 = one_column c rows r.0 s.0 r.3 s.3 in
    let rest : r.1 ≡ s.1 = one_each cs rows r.1 s.1 r.4 s.4 in
    r.2 ∙ ap (λ (v : List Value). v ∷ r.1) here ∙ ap (λ (xs : List (List Value)). s.0 ∷ xs) rest ∙ sym s.2

-- the first record, the others and the columns are one
record Same (h k : Row) (rows others : List Row) (cs ds : List Place) : Type 0 where
  pub header : h ≡ k
  pub rows_are : rows ≡ others
  pub columns : cs ≡ ds

same : (content : List ℕ) (wanted : Wanted) (h k : Row) (rows others : List Row) (cs ds : List Place)
    → HasColumns content wanted h rows cs → HasColumns content wanted k others ds → Same h k rows others cs ds
same content wanted h k rows others cs ds a b =
    let both : h ∷ rows ≡ k ∷ others = sym a.split ∙ b.split in
    let header : h ≡ k = cc both in
    let rest : rows ≡ others = cc both in
    let chosen : Some cs ≡ Some ds = sym a.found ∙ ap (columns_of wanted) header ∙ b.found in
    record { header = header; rows_are = rest; columns = some_is cs ds chosen }

pub one_value : (content : List ℕ) (wanted : Wanted) (v w : Value) → TableReads content wanted v → TableReads content wanted w → v ≡ w
one_value content wanted v w a b =
    let s = same content wanted a.header b.header a.rows b.rows a.columns b.columns a.there b.there in
    let moved : ColumnsRead a.columns a.rows b.cells =
    subst (λ (cs : List Place). ColumnsRead cs a.rows b.cells) (sym s.columns) (subst (λ (rs : List Row). ColumnsRead b.columns rs b.cells) (sym s.rows_are) b.read) in
    let cells : a.cells ≡ b.cells = one_each a.columns a.rows a.cells b.cells a.read moved in
    a.value ∙ ap (λ (vss : List (List Value)). struct (values (map listed vss))) cells ∙ sym b.value

-- ---- no reason beside a value

range_not : (t : TypeTree) (field : List ℕ) (v : Value) → CellReads t field v → CellFails faults.Range t field → ⊥
range_not (scalar k) field v r h =
    let one : h.raw ≡ r.raw = one_spelling field (scalar k) h.raw r.raw h.spelled r.spelled in
    h.out (subst IsInRange (sym one) r.in_range)
range_not (vec t) field v r h = h
range_not (struct_of ts) field v r h = h
range_not (dict k t) field v r h = h
range_not (build b) field v r h = h

-- where cells read, none fails for a reason that excludes reading
column_not : (fault : DataFault) → ((t : TypeTree) (field : List ℕ) (v : Value) → CellReads t field v → CellFails fault t field → ⊥)
    → (c : Place) (rows : List Row) (vs : List Value) → ColumnReads c rows vs → ColumnFails fault c rows → ⊥
column_not fault n c [] vs r h = h
column_not fault n c (row ∷ rows) vs r (inl h) = let f = r.3 in n c.cell f.0 r.0 f.2 (one_field (CellFails fault c.cell) c row f.0 f.1 h)
column_not fault n c (row ∷ rows) vs r (inr h) = column_not fault n c rows r.1 r.4 h

columns_not : (fault : DataFault) → ((t : TypeTree) (field : List ℕ) (v : Value) → CellReads t field v → CellFails fault t field → ⊥)
    → (cs : List Place) (rows : List Row) (vss : List (List Value)) → ColumnsRead cs rows vss → SomeFails fault cs rows → ⊥
columns_not fault n [] rows vss r h = h
columns_not fault n (c ∷ cs) rows vss r (inl h) = column_not fault n c rows r.0 r.3 h
columns_not fault n (c ∷ cs) rows vss r (inr h) = columns_not fault n cs rows r.1 r.4 h

-- a table's form excludes the reasons of form
not_form : (content : List ℕ) (wanted : Wanted) (header : Row) (rows : List Row) (cs : List Place) → HasColumns content wanted header rows cs
    → TableFails content wanted reasons.Form → ⊥
not_form content wanted header rows cs a (inl h) = let both : header ∷ rows ≡ [] = sym a.split ∙ h in cc both
not_form content wanted header rows cs a (inr (k, others, split, none)) =
    let both : header ∷ rows ≡ k ∷ others = sym a.split ∙ split in
    let first : header ≡ k = cc both in
    let chosen : Some cs ≡ None = sym a.found ∙ ap (columns_of wanted) first ∙ none in
    cc chosen

even_moved : (h k : Row) (rows others : List Row) → h ≡ k → rows ≡ others → AreEven h rows → AreEven k others
even_moved h k rows others e f a = subst (λ (r : List Row). AreEven k r) f (subst (λ (x : Row). AreEven x rows) e a)

fails_moved : (P : List Place → List Row → Type 0) (rows others : List Row) (cs ds : List Place) → rows ≡ others → cs ≡ ds → P cs rows → P ds others
fails_moved P rows others cs ds e f p = subst (λ (r : List Row). P ds r) e (subst (λ (c : List Place). P c rows) f p)

pub no_reason : (content : List ℕ) (wanted : Wanted) (v : Value) (f : TableFault) → TableReads content wanted v → TableFails content wanted f → f ≡ reasons.Memory
no_reason content wanted v reasons.Form a h = absurd (not_form content wanted a.header a.rows a.columns a.there h)
no_reason content wanted v reasons.Length a (header, rows, cs, there, uneven) =
    let s = same content wanted a.header header a.rows rows a.columns cs a.there there in
    absurd (uneven (even_moved a.header header a.rows rows s.header s.rows_are a.even))
no_reason content wanted v reasons.Syntax a (header, rows, cs, there, even, fails) =
    let s = same content wanted a.header header a.rows rows a.columns cs a.there there in
    absurd (columns_not faults.Syntax reads_in_form a.columns a.rows a.cells a.read
    (fails_moved (SomeFails faults.Syntax) rows a.rows cs a.columns (sym s.rows_are) (sym s.columns) fails))
no_reason content wanted v reasons.Range a (header, rows, cs, there, even, (in_form, fails)) =
    let s = same content wanted a.header header a.rows rows a.columns cs a.there there in
    absurd (columns_not faults.Range range_not a.columns a.rows a.cells a.read
    (fails_moved (SomeFails faults.Range) rows a.rows cs a.columns (sym s.rows_are) (sym s.columns) fails))
no_reason content wanted v reasons.Memory a h = refl

-- ---- one reason

length_even : (content : List ℕ) (wanted : Wanted) (P : List Place → List Row → Type 0) → TableFails content wanted reasons.Length → OfTable content wanted P → ⊥
length_even content wanted P (header, rows, cs, there, uneven) b =
    let s = same content wanted b.0 header b.1 rows b.2 cs b.3 there in
    uneven (even_moved b.0 header b.1 rows s.header s.rows_are b.4)

syntax_range : (content : List ℕ) (wanted : Wanted) → TableFails content wanted reasons.Syntax → TableFails content wanted reasons.Range → ⊥
syntax_range content wanted (header, rows, cs, there, even, fails) (k, others, ds, here, also, (in_form, out)) =
    let s = same content wanted k header others rows ds cs here there in
    in_form (fails_moved (SomeFails faults.Syntax) rows others cs ds (sym s.rows_are) (sym s.columns) fails)

form_length : (content : List ℕ) (wanted : Wanted) → TableFails content wanted reasons.Form → TableFails content wanted reasons.Length → ⊥
form_length content wanted f (header, rows, cs, there, uneven) = not_form content wanted header rows cs there f

form_of : (content : List ℕ) (wanted : Wanted) (P : List Place → List Row → Type 0) → TableFails content wanted reasons.Form → OfTable content wanted P → ⊥
form_of content wanted P f b = not_form content wanted b.0 b.1 b.2 b.3 f

pub one_reason : (content : List ℕ) (wanted : Wanted) (f g : TableFault) → TableFails content wanted f → TableFails content wanted g
    → (f ≡ reasons.Memory) ⊎ ((g ≡ reasons.Memory) ⊎ (f ≡ g))
one_reason content wanted reasons.Memory g a b = inl refl
one_reason content wanted reasons.Form reasons.Memory a b = inr (inl refl)
one_reason content wanted reasons.Length reasons.Memory a b = inr (inl refl)
one_reason content wanted reasons.Syntax reasons.Memory a b = inr (inl refl)
one_reason content wanted reasons.Range reasons.Memory a b = inr (inl refl)
one_reason content wanted reasons.Form reasons.Form a b = inr (inr refl)
one_reason content wanted reasons.Length reasons.Length a b = inr (inr refl)
one_reason content wanted reasons.Syntax reasons.Syntax a b = inr (inr refl)
one_reason content wanted reasons.Range reasons.Range a b = inr (inr refl)
one_reason content wanted reasons.Form reasons.Length a b = absurd (form_length content wanted a b)
one_reason content wanted reasons.Length reasons.Form a b = absurd (form_length content wanted b a)
one_reason content wanted reasons.Form reasons.Syntax a b = absurd (form_of content wanted (SomeFails faults.Syntax) a b)
one_reason content wanted reasons.Syntax reasons.Form a b = absurd (form_of content wanted (SomeFails faults.Syntax) b a)
one_reason content wanted reasons.Form reasons.Range a b = absurd (form_of content wanted (λ cs rows. (SomeFails faults.Syntax cs rows → ⊥) × SomeFails faults.Range cs rows) a b)
one_reason content wanted reasons.Range reasons.Form a b = absurd (form_of content wanted (λ cs rows. (SomeFails faults.Syntax cs rows → ⊥) × SomeFails faults.Range cs rows) b a)
one_reason content wanted reasons.Length reasons.Syntax a b = absurd (length_even content wanted (SomeFails faults.Syntax) a b)
one_reason content wanted reasons.Syntax reasons.Length a b = absurd (length_even content wanted (SomeFails faults.Syntax) b a)
one_reason content wanted reasons.Length reasons.Range a b = absurd (length_even content wanted (λ cs rows. (SomeFails faults.Syntax cs rows → ⊥) × SomeFails faults.Range cs rows) a b)
one_reason content wanted reasons.Range reasons.Length a b = absurd (length_even content wanted (λ cs rows. (SomeFails faults.Syntax cs rows → ⊥) × SomeFails faults.Range cs rows) b a)
one_reason content wanted reasons.Syntax reasons.Range a b = absurd (syntax_range content wanted a b)
one_reason content wanted reasons.Range reasons.Syntax a b = absurd (syntax_range content wanted b a)
