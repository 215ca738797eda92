-- What a column has read, and one record more.
use Rattle.std.proofs.Common.{◌≡◌, ◌∙◌, ◌⊎◌, inl, inr, sym, ap, subst, refl, ℕ, List, [], ◌∷◌, ◌++◌, Some, None, ◌<◌, length, zero, suc, arith}
use Rattle.csv.specs.Records.{field_at}
use Rattle.weld_data.specs.Value.{Value}
use Rattle.weld_tree.specs.TypeTree.{TypeTree, scalar, vec, struct, dict, build}
use Rattle.weld_values.specs.declared.fault.DataFault.{DataFault}
use Rattle.weld_values.specs.declared.fault.DataFault.TheVariants as faults
use Rattle.weld_table.specs.Table.{Row, Place, HasField, CellReads, CellFails, ColumnReads, ColumnFails}
use Rattle.weld_table.specs.Cells.{HasRead, IsAdded, worse}
use Rattle.weld_table.specs.declared.verdict.Verdict.{Verdict}
use Rattle.weld_table.specs.declared.verdict.Verdict.TheVariants.{Fine, Range, Syntax}

some_is : {A : Type 0} (x y : A) → Some x ≡ Some y → x ≡ y
some_is x y h = cc h

-- a cell that reads is in form, and so is one that is out of range
pub reads_in_form : (t : TypeTree) (field : List ℕ) (v : Value) → CellReads t field v → CellFails faults.Syntax t field → ⊥
reads_in_form (scalar k) field v r h = h r.raw r.spelled
reads_in_form (vec t) field v r h = h
reads_in_form (struct ts) field v r h = h
reads_in_form (dict k t) field v r h = h
reads_in_form (build b) field v r h = h

pub range_in_form : (t : TypeTree) (field : List ℕ) → CellFails faults.Range t field → CellFails faults.Syntax t field → ⊥
range_in_form (scalar k) field r h = h r.raw r.spelled
range_in_form (vec t) field r h = h
range_in_form (struct ts) field r h = h
range_in_form (dict k t) field r h = h
range_in_form (build b) field r h = h

-- of one field of a record
pub one_field : (P : List ℕ → Type 0) (c : Place) (row : Row) (field : List ℕ) → field_at row c.at ≡ Some field → HasField P c row → P field
one_field P c row field e h = subst P (some_is _ _ (sym h.1 ∙ e)) h.2

pub read_in_form : (c : Place) (rows : List Row) (vs : List Value) → ColumnReads c rows vs → ColumnFails faults.Syntax c rows → ⊥
read_in_form c [] vs r h = h
read_in_form c (row ∷ rows) vs r (inl h) =
    let f = r.3 in reads_in_form c.cell f.0 r.0 f.2 (one_field (CellFails faults.Syntax c.cell) c row f.0 f.1 h)
read_in_form c (row ∷ rows) vs r (inr h) = read_in_form c rows r.1 r.4 h

-- one record more
reads_more : (c : Place) (rows : List Row) (vs : List Value) (row : Row) (v : Value) → ColumnReads c rows vs
    → HasField (λ field. CellReads c.cell field v) c row → ColumnReads c (rows ++ row ∷ []) (vs ++ v ∷ [])
reads_more c [] vs row v r h = (v, [], ap (λ (xs : List Value). xs ++ v ∷ []) r, h, refl)
reads_more c (first ∷ rows) vs row v r h =
    (r.0, r.1 ++ v ∷ [], ap (λ (xs : List Value). xs ++ v ∷ []) r.2, r.3, reads_more c rows r.1 row v r.4 h)

fails_before : (fault : DataFault) (c : Place) (rows : List Row) (row : Row) → ColumnFails fault c rows → ColumnFails fault c (rows ++ row ∷ [])
fails_before fault c [] row h = absurd h
fails_before fault c (first ∷ rows) row (inl h) = inl h
fails_before fault c (first ∷ rows) row (inr h) = inr (fails_before fault c rows row h)

fails_last : (fault : DataFault) (c : Place) (rows : List Row) (row : Row) → HasField (CellFails fault c.cell) c row → ColumnFails fault c (rows ++ row ∷ [])
fails_last fault c [] row h = inl h
fails_last fault c (first ∷ rows) row h = inr (fails_last fault c rows row h)

fails_split : (fault : DataFault) (c : Place) (rows : List Row) (row : Row) → ColumnFails fault c (rows ++ row ∷ [])
    → ColumnFails fault c rows ⊎ HasField (CellFails fault c.cell) c row
fails_split fault c [] row (inl h) = inr h
fails_split fault c [] row (inr h) = absurd h
fails_split fault c (first ∷ rows) row (inl h) = inl (inl h)
fails_split fault c (first ∷ rows) row (inr h) = behind fault c first rows row (fails_split fault c rows row h)
  where
    behind : (fault : DataFault) (c : Place) (first : Row) (rows : List Row) (row : Row)
        → ColumnFails fault c rows ⊎ HasField (CellFails fault c.cell) c row
        → ColumnFails fault c (first ∷ rows) ⊎ HasField (CellFails fault c.cell) c row
    behind fault c first rows row (inl g) = inl (inr g)
    behind fault c first rows row (inr g) = inr g

-- none is out of form, where none was and the field isn't
still_in_form : (c : Place) (rows : List Row) (row : Row) (field : List ℕ) → field_at row c.at ≡ Some field
    → (ColumnFails faults.Syntax c rows → ⊥) → (CellFails faults.Syntax c.cell field → ⊥) → ColumnFails faults.Syntax c (rows ++ row ∷ []) → ⊥
still_in_form c rows row field e before now h = case (fails_split faults.Syntax c rows row h)
  where
    case : ColumnFails faults.Syntax c rows ⊎ HasField (CellFails faults.Syntax c.cell) c row → ⊥
    case (inl g) = before g
    case (inr g) = now (one_field (CellFails faults.Syntax c.cell) c row field e g)

pub so_far_more : (w u : Verdict) (c : Place) (rows : List Row) (row : Row) (field : List ℕ) (old new : List Value)
    → field_at row c.at ≡ Some field → HasRead w c rows old → IsAdded c.cell field old new u → HasRead (worse w u) c (rows ++ row ∷ []) new
so_far_more Fine Fine c rows row field old new e r a =
    subst (ColumnReads c (rows ++ row ∷ [])) (sym a.2) (reads_more c rows old row a.0 r (field, e, a.1))
so_far_more Fine Range c rows row field old new e r a = (
  fails_last faults.Range c rows row (field, e, a),
  still_in_form c rows row field e (read_in_form c rows old r) (range_in_form c.cell field a),
)
so_far_more Fine Syntax c rows row field old new e r a = fails_last faults.Syntax c rows row (field, e, a)
so_far_more Range Fine c rows row field old new e r a = (
  fails_before faults.Range c rows row r.0,
  still_in_form c rows row field e r.1 (reads_in_form c.cell field a.0 a.1),
)
so_far_more Range Range c rows row field old new e r a = (
  fails_before faults.Range c rows row r.0,
  still_in_form c rows row field e r.1 (range_in_form c.cell field a),
)
so_far_more Range Syntax c rows row field old new e r a = fails_last faults.Syntax c rows row (field, e, a)
so_far_more Syntax u c rows row field old new e r a = fails_before faults.Syntax c rows row r

-- a field that is there is found
pub field_there : (fields : Row) (i : ℕ) → i < length fields → field_at fields i ≡ None → ⊥
unfolding field_at
field_there [] i h e = omega (arith, h)
field_there (f ∷ fs) zero h e = cc e
field_there (f ∷ fs) (suc i) h e = field_there fs i (omega (arith, h)) e
