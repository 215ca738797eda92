-- From columns that have read all records to the table.
use Rattle.std.proofs.Common.{◌≡◌, ◌∙◌, ◌⊎◌, inl, inr, sym, ap, subst, refl, ◌<◌, ℕ, zero, suc, List, [], ◌∷◌, ◌++◌, length, map, get_or, drop, take, Option, Some, None, Ok, Err, arith, ◌≤◌, ◌+◌}
use Rattle.std.proofs.Math.Seq.{drop-cons}
use Rattle.std.proofs.lemmas.List.{drop_all}
use Rattle.std.proofs.lemmas.Slice.Zip.{AllZip-long}
use Rattle.std.specs.List.{All, AllZip}
use Rattle.weld_data.specs.Value.{Value, struct, values}
use Rattle.weld_values.specs.declared.fault.DataFault.TheVariants as faults
use Rattle.weld_table.specs.declared.column.TableColumn.{TableColumn}
use Rattle.weld_table.specs.declared.wanted.Wanted.{Wanted}
use Rattle.weld_table.specs.declared.fault.TableFault.{TableFault}
use Rattle.weld_table.specs.declared.fault.TableFault.TheVariants as reasons
use Rattle.weld_table.specs.declared.verdict.Verdict.{Verdict}
use Rattle.weld_table.specs.declared.verdict.Verdict.TheVariants.{Fine, Range, Syntax}
use Rattle.weld_table.specs.Table.{Row, Place, ColumnFails, ColumnsRead, SomeFails, TableReads, TableFails, rows_of, columns_of, listed}
use Rattle.weld_table.specs.Cells.{place_of, view_cells, HasRead, IsSoFar, IsNew, AreNew, AreChosen, StandsBelow, IsJudged, HasGrownBy, RowsRead, IsUneven, worse, worst_of, listed_of, AllRead}
use Rattle.weld_table.proofs.SoFar.{read_in_form}

-- ---- each column has read all records

new_reads : (width : ℕ) (c : TableColumn) → IsNew width c → IsSoFar [] c
new_reads width c n = subst (λ (w : Verdict). HasRead w (place_of c) [] (view_cells c.cells)) (sym n.0) n.1

pub all_read : (width : ℕ) (rows : List Row) (first last : List TableColumn) → All (IsNew width) first → AllZip (HasGrownBy rows) first last
    → All (IsSoFar rows) last
all_read width rows [] [] n r k d h = absurd (omega (arith, h))
all_read width rows [] (y ∷ ys) n r k d h = absurd r
all_read width rows (x ∷ xs) [] n r k d h = absurd r
all_read width rows (x ∷ xs) (y ∷ ys) n r zero d h = r.0.1 [] (new_reads width x (n 0 x (omega arith)))
all_read width rows (x ∷ xs) (y ∷ ys) n r (suc k) d h =
    all_read width rows xs ys (λ j e l. n (suc j) e (omega (arith, l))) r.1 k d (omega (arith, h))

pub places_stay : (rows : List Row) (first last : List TableColumn) → AllZip (HasGrownBy rows) first last → map place_of last ≡ map place_of first
places_stay rows [] [] r = refl
places_stay rows [] (y ∷ ys) r = absurd r
places_stay rows (x ∷ xs) [] r = absurd r
places_stay rows (x ∷ xs) (y ∷ ys) r =
    ap (λ (p : Place). p ∷ map place_of ys) r.0.0 ∙ ap (λ (ps : List Place). place_of x ∷ ps) (places_stay rows xs ys r.1)

-- ---- what is said of all

head_of : (rows : List Row) (c : TableColumn) (cs : List TableColumn) → All (IsSoFar rows) (c ∷ cs) → IsSoFar rows c
head_of rows c cs a = a 0 c (omega arith)

rest_of : (rows : List Row) (c : TableColumn) (cs : List TableColumn) → All (IsSoFar rows) (c ∷ cs) → All (IsSoFar rows) cs
rest_of rows c cs a k d h = a (suc k) d (omega (arith, h))

-- once something is wrong it stays so
syntax_stays : (cs : List TableColumn) → worst_of Syntax cs ≡ Syntax
syntax_stays [] = refl
syntax_stays (c ∷ cs) = syntax_stays cs

range_stays : (w : Verdict) (cs : List TableColumn) → worst_of (worse Range w) cs ≡ Fine → ⊥
range_stays Fine [] h = cc h
range_stays Range [] h = cc h
range_stays Syntax [] h = cc h
range_stays Fine (c ∷ cs) h = range_stays c.verdict cs h
range_stays Range (c ∷ cs) h = range_stays c.verdict cs h
range_stays Syntax (c ∷ cs) h = cc (sym (syntax_stays cs) ∙ h)

abbrev cells_of : TableColumn → List Value
cells_of c = view_cells c.cells

fine_by : (w : Verdict) (rows : List Row) (c : TableColumn) (cs : List TableColumn) → HasRead w (place_of c) rows (cells_of c)
    → (worst_of Fine cs ≡ Fine → ColumnsRead (map place_of cs) rows (map cells_of cs))
    → worst_of (worse Fine w) cs ≡ Fine → ColumnsRead (place_of c ∷ map place_of cs) rows (cells_of c ∷ map cells_of cs)
fine_by Fine rows c cs r f h = (cells_of c, map cells_of cs, refl, r, f h)
fine_by Range rows c [] r f h = cc h
fine_by Range rows c (d ∷ cs) r f h = absurd (range_stays d.verdict cs h)
fine_by Syntax rows c cs r f h = cc (sym (syntax_stays cs) ∙ h)

fine_all : (rows : List Row) (cs : List TableColumn) → All (IsSoFar rows) cs → worst_of Fine cs ≡ Fine → ColumnsRead (map place_of cs) rows (map cells_of cs)
fine_all rows [] a h = refl
fine_all rows (c ∷ cs) a h = fine_by c.verdict rows c cs (head_of rows c cs a) (fine_all rows cs (rest_of rows c cs a)) h

-- the worst comes from somewhere
syntax_by : (w u : Verdict) (rows : List Row) (c : TableColumn) (cs : List TableColumn) → HasRead u (place_of c) rows (cells_of c)
    → ((v : Verdict) → worst_of v cs ≡ Syntax → (v ≡ Syntax) ⊎ SomeFails faults.Syntax (map place_of cs) rows)
    → worst_of (worse w u) cs ≡ Syntax → (w ≡ Syntax) ⊎ SomeFails faults.Syntax (place_of c ∷ map place_of cs) rows
syntax_by w u rows c cs r f h = from w u r (f (worse w u) h)
  where
    from : (w u : Verdict) → HasRead u (place_of c) rows (cells_of c) → (worse w u ≡ Syntax) ⊎ SomeFails faults.Syntax (map place_of cs) rows
        → (w ≡ Syntax) ⊎ SomeFails faults.Syntax (place_of c ∷ map place_of cs) rows
    from w u r (inr s) = inr (inr s)
    from Fine Fine r (inl e) = cc e
    from Fine Range r (inl e) = cc e
    from Fine Syntax r (inl e) = inr (inl r)
    from Range Fine r (inl e) = cc e
    from Range Range r (inl e) = cc e
    from Range Syntax r (inl e) = inr (inl r)
    from Syntax u r (inl e) = inl refl

syntax_some : (w : Verdict) (rows : List Row) (cs : List TableColumn) → All (IsSoFar rows) cs → worst_of w cs ≡ Syntax
    → (w ≡ Syntax) ⊎ SomeFails faults.Syntax (map place_of cs) rows
syntax_some w rows [] a h = inl h
syntax_some w rows (c ∷ cs) a h =
    syntax_by w c.verdict rows c cs (head_of rows c cs a) (λ v e. syntax_some v rows cs (rest_of rows c cs a) e) h

range_by : (w u : Verdict) (rows : List Row) (c : TableColumn) (cs : List TableColumn) → HasRead u (place_of c) rows (cells_of c)
    → (worse w u ≡ Range) ⊎ SomeFails faults.Range (map place_of cs) rows → (w ≡ Range) ⊎ SomeFails faults.Range (place_of c ∷ map place_of cs) rows
range_by w u rows c cs r (inr s) = inr (inr s)
range_by Fine Fine rows c cs r (inl e) = cc e
range_by Fine Range rows c cs r (inl e) = inr (inl r.0)
range_by Fine Syntax rows c cs r (inl e) = cc e
range_by Range Fine rows c cs r (inl e) = inl refl
range_by Range Range rows c cs r (inl e) = inl refl
range_by Range Syntax rows c cs r (inl e) = cc e
range_by Syntax u rows c cs r (inl e) = cc e

range_some : (w : Verdict) (rows : List Row) (cs : List TableColumn) → All (IsSoFar rows) cs → worst_of w cs ≡ Range
    → (w ≡ Range) ⊎ SomeFails faults.Range (map place_of cs) rows
range_some w rows [] a h = inl h
range_some w rows (c ∷ cs) a h = range_by w c.verdict rows c cs (head_of rows c cs a) (range_some (worse w c.verdict) rows cs (rest_of rows c cs a) h)

-- where it is no worse than a range, none isn't in form
in_form_by : (w u : Verdict) (rows : List Row) (c : TableColumn) (cs : List TableColumn) → HasRead u (place_of c) rows (cells_of c)
    → worst_of (worse w u) cs ≡ Range → ColumnFails faults.Syntax (place_of c) rows → ⊥
in_form_by w Fine rows c cs r h s = read_in_form (place_of c) rows (cells_of c) r s
in_form_by w Range rows c cs r h s = r.1 s
in_form_by Fine Syntax rows c cs r h s = cc (sym (syntax_stays cs) ∙ h)
in_form_by Range Syntax rows c cs r h s = cc (sym (syntax_stays cs) ∙ h)
in_form_by Syntax Syntax rows c cs r h s = cc (sym (syntax_stays cs) ∙ h)

in_form : (w : Verdict) (rows : List Row) (cs : List TableColumn) → All (IsSoFar rows) cs → worst_of w cs ≡ Range
    → SomeFails faults.Syntax (map place_of cs) rows → ⊥
in_form w rows [] a h s = s
in_form w rows (c ∷ cs) a h (inl s) = in_form_by w c.verdict rows c cs (head_of rows c cs a) h s
in_form w rows (c ∷ cs) a h (inr s) = in_form (worse w c.verdict) rows cs (rest_of rows c cs a) h s

-- ---- the table

listed_all : (cs : List TableColumn) → map listed_of cs ≡ map listed (map cells_of cs)
listed_all [] = refl
listed_all (c ∷ cs) = ap (λ (vs : List Value). listed_of c ∷ vs) (listed_all cs)

pub now_read : (content : List ℕ) (wanted : Wanted) (header : Row) (rows : List Row) (cs : List Place) (first last : List TableColumn)
    → rows_of content ≡ header ∷ rows → columns_of wanted header ≡ Some cs → AreNew (length header) cs first → RowsRead (length header) rows first last
    → AllRead content wanted last
now_read content wanted header rows cs first last split found new read = record {
  header = header;
  rows = rows;
  there = record { split = split; found = found ∙ ap Some (sym (places_stay rows first last read.1 ∙ new.0)) };
  even = read.0;
  read = all_read (length header) rows first last new.1 read.1;
}

pub is_table : (content : List ℕ) (wanted : Wanted) (last : List TableColumn) (v : Value) → AllRead content wanted last → worst_of Fine last ≡ Fine
    → v ≡ struct (values (map listed_of last)) → TableReads content wanted v
is_table content wanted last v a h e = record {
  header = a.header;
  rows = a.rows;
  columns = map place_of last;
  cells = map cells_of last;
  there = a.there;
  even = a.even;
  read = fine_all a.rows last a.read h;
  value = e ∙ ap (λ (vs : List Value). struct (values vs)) (listed_all last);
}

not_yet : (P : Type 0) (w : Verdict) → w ≡ Fine → (w ≡ Syntax) ⊎ P → P
not_yet P w f (inl e) = cc (sym f ∙ e)
not_yet P w f (inr p) = p

not_so : (P : Type 0) (w : Verdict) → w ≡ Fine → (w ≡ Range) ⊎ P → P
not_so P w f (inl e) = cc (sym f ∙ e)
not_so P w f (inr p) = p

pub is_syntax : (content : List ℕ) (wanted : Wanted) (last : List TableColumn) → AllRead content wanted last → worst_of Fine last ≡ Syntax
    → TableFails content wanted reasons.Syntax
is_syntax content wanted last a h = (
  a.header,
  a.rows,
  map place_of last,
  a.there,
  a.even,
  not_yet (SomeFails faults.Syntax (map place_of last) a.rows) Fine refl (syntax_some Fine a.rows last a.read h),
)

pub is_range : (content : List ℕ) (wanted : Wanted) (last : List TableColumn) → AllRead content wanted last → worst_of Fine last ≡ Range
    → TableFails content wanted reasons.Range
is_range content wanted last a h = (
  a.header,
  a.rows,
  map place_of last,
  a.there,
  a.even,
  (
    in_form Fine a.rows last a.read h,
    not_so (SomeFails faults.Range (map place_of last) a.rows) Fine refl (range_some Fine a.rows last a.read h),
  ),
)

pub is_uneven : (content : List ℕ) (wanted : Wanted) (header : Row) (rows : List Row) (cs : List Place) (fault : TableFault)
    → rows_of content ≡ header ∷ rows → columns_of wanted header ≡ Some cs → IsUneven (length header) rows fault → TableFails content wanted fault
is_uneven content wanted header rows cs reasons.Length split found u = (header, rows, cs, record { split = split; found = found }, u)
is_uneven content wanted header rows cs reasons.Memory split found u = tt
is_uneven content wanted header rows cs reasons.Form split found u = absurd u
is_uneven content wanted header rows cs reasons.Syntax split found u = absurd u
is_uneven content wanted header rows cs reasons.Range split found u = absurd u

-- ---- the worst, column by column

abbrev pub IsWorst : List TableColumn → ℕ → Verdict → Type 0
IsWorst cs i w = worst_of Fine cs ≡ worst_of w (drop i cs)

pub worst_more : (cs : List TableColumn) (i : ℕ) (w u : Verdict) (d : TableColumn) → i < length cs → u ≡ worse w (get_or cs i d).verdict
    → IsWorst cs i w → IsWorst cs (i + 1) u
worst_more cs i w u d h e a =
    let one : suc i ≡ i + 1 = omega arith in
    a ∙ ap (worst_of w) (drop-cons cs i d h ∙ ap (λ (n : ℕ). get_or cs i d ∷ drop n cs) one)
    ∙ ap (λ (v : Verdict). worst_of v (drop (i + 1) cs)) (sym e)

pub worst_all : (cs : List TableColumn) (i : ℕ) (w : Verdict) → length cs ≤ i → IsWorst cs i w → worst_of Fine cs ≡ w
worst_all cs i w h a = a ∙ ap (worst_of w) (drop_all i cs h)

-- ---- the answer

pub no_record : (content : List ℕ) (wanted : Wanted) → rows_of content ≡ [] → TableFails content wanted reasons.Form
no_record content wanted h = inl h

pub no_column : (content : List ℕ) (wanted : Wanted) (header : Row) (rows : List Row) → rows_of content ≡ header ∷ rows → columns_of wanted header ≡ None
    → TableFails content wanted reasons.Form
no_column content wanted header rows split h = inr (header, rows, split, h)

-- what is chosen where there are columns, and where there are none
pub chosen_none : (width : ℕ) (o : Option (List Place)) → AreChosen width o None → o ≡ None
chosen_none width None h = refl
chosen_none width (Some cs) h = absurd h

pub chosen_some : (width : ℕ) (o : Option (List Place)) (columns : List TableColumn) → AreChosen width o (Some columns)
    → (cs : List Place) × (o ≡ Some cs) × AreNew width cs columns
chosen_some width None columns h = absurd h
chosen_some width (Some cs) columns h = (cs, refl, h)

stand_new : (width : ℕ) (columns : List TableColumn) → All (IsNew width) columns → All (StandsBelow width) columns
stand_new width columns n k d h = (n k d h).2

pub chosen_stand : (width : ℕ) (o : Option (List Place)) (columns : List TableColumn) → AreChosen width o (Some columns) → All (StandsBelow width) columns
chosen_stand width o columns h = let c = chosen_some width o columns h in stand_new width columns c.2.1

pub judged_fault : (content : List ℕ) (wanted : Wanted) (last : List TableColumn) (w : Verdict) (fault : TableFault) → AllRead content wanted last
    → worst_of Fine last ≡ w → IsJudged {A = Unit {0}} w (Err fault) → TableFails content wanted fault
judged_fault content wanted last Fine fault a e j = absurd j
judged_fault content wanted last Range fault a e j = subst (TableFails content wanted) (sym j) (is_range content wanted last a e)
judged_fault content wanted last Syntax fault a e j = subst (TableFails content wanted) (sym j) (is_syntax content wanted last a e)

pub judged_fine : (w : Verdict) (x : Unit {0}) → IsJudged w (Ok x) → w ≡ Fine
judged_fine Fine x j = refl
judged_fine Range x j = absurd j
judged_fine Syntax x j = absurd j

-- the columns as a vector keeps them that lent them out as a slice
pub take_front : {A : Type 0} (n : ℕ) (ys zs : List A) → length ys ≡ n → take n (ys ++ zs) ≡ ys
take_front n [] zs h = rw (← h) (take_none zs)
  where
    take_none : {A : Type 0} (zs : List A) → take 0 zs ≡ []
    take_none [] = refl
    take_none (z ∷ zs) = refl
take_front zero (y ∷ ys) zs h = absurd (omega (arith, h))
take_front (suc n) (y ∷ ys) zs h = ap (λ xs. y ∷ xs) (take_front n ys zs (omega (arith, h)))

pub lent_back : (content : List ℕ) (wanted : Wanted) (len : ℕ) (rows : List Row) (first last left : List TableColumn) → length first ≡ len
    → AllZip (HasGrownBy rows) first last → AllRead content wanted last → AllRead content wanted (take len (last ++ left))
lent_back content wanted len rows first last left h r a =
    subst (AllRead content wanted) (sym (take_front len last left (AllZip-long (HasGrownBy rows) first last r ∙ h))) a
