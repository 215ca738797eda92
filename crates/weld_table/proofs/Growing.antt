-- Columns that read records, one after another.
use Rattle.std.proofs.Common.{◌≡◌, ◌≢◌, ◌∙◌, sym, ap, subst, refl, ℕ, zero, suc, List, [], ◌∷◌, ◌++◌, length, arith, append_assoc, Bool, true, false, Bor}
use Rattle.std.proofs.lemmas.List.{append-nil}
use Rattle.std.proofs.lemmas.List.Elements.{All-append}
use Rattle.std.specs.List.{All, AllZip}
use Rattle.csv.specs.declared.reader.Reader.{Reader}
use Rattle.weld_table.specs.declared.column.TableColumn.{TableColumn}
use Rattle.weld_table.specs.Table.{Row, Place}
use Rattle.weld_table.specs.Cells.{IsSoFar, StandsBelow, HasGrown, HasGrownBy, AreWide, RowsRead}
use Rattle.weld_table.specs.Rows.{Leaves, Takes}
use Rattle.weld_table.proofs.Zipped.{zip_same, zip_then, zip_all}

none_grown : (c : TableColumn) → HasGrownBy [] c c
none_grown c = (refl, λ before s. subst (λ (rows : List Row). IsSoFar rows c) (sym (append-nil before)) s)

pub none_read : (width : ℕ) (columns : List TableColumn) → RowsRead width [] columns columns
none_read width columns = (λ k d h. absurd (omega (arith, h)), zip_same (HasGrownBy []) none_grown columns)

one_grown : (rows : List Row) (row : Row) (x y z : TableColumn) → HasGrownBy rows x y → HasGrown row y z → HasGrownBy (rows ++ row ∷ []) x z
one_grown rows row x y z r s =
    (s.0 ∙ r.0, λ before h. subst (λ (all : List Row). IsSoFar all z) (append_assoc before rows (row ∷ [])) (s.1 (before ++ rows) (r.1 before h)))

one_wide : (width : ℕ) (row : Row) → length row ≡ width → AreWide width (row ∷ [])
one_wide width row e zero d h = e
one_wide width row e (suc k) d h = absurd (omega (arith, h))

pub one_read : (width : ℕ) (rows : List Row) (row : Row) (first before after : List TableColumn) → RowsRead width rows first before
    → length row ≡ width → AllZip (HasGrown row) before after → RowsRead width (rows ++ row ∷ []) first after
one_read width rows row first before after r e s = (
  All-append (λ (x : Row). length x ≡ width) rows (row ∷ []) r.0 (one_wide width row e),
  zip_then (HasGrownBy rows) (HasGrown row) (HasGrownBy (rows ++ row ∷ [])) (one_grown rows row) first before after r.1 s,
)

stays_below : (width : ℕ) (row : Row) (x y : TableColumn) → HasGrown row x y → StandsBelow width x → StandsBelow width y
stays_below width row x y r h = let same : y.place ≡ x.place = ap (λ (p : Place). p.at) r.0 in omega (arith, same, h)

pub all_stay : (width : ℕ) (row : Row) (before after : List TableColumn) → AllZip (HasGrown row) before after
    → All (StandsBelow width) before → All (StandsBelow width) after
all_stay width row before after r h = zip_all (HasGrown row) (StandsBelow width) (stays_below width row) before after r h

-- a record among others that isn't wide enough
pub not_wide : (width : ℕ) (rows more : List Row) (row : Row) → length row ≢ width → AreWide width (rows ++ row ∷ more) → ⊥
not_wide width [] more row n w = n (w 0 row (omega arith))
not_wide width (first ∷ rows) more row n w = not_wide width rows more row n (λ k d h. w (suc k) d (omega (arith, h)))

-- ---- the records that were read so far, and those that are left

abbrev pub SeenOf : Reader (Bor (List ℕ)) → Reader (Bor (List ℕ)) → ℕ → List TableColumn → List TableColumn → Type 0
SeenOf init now width first columns = (rows : List Row) → Leaves init rows
    → (seen : List Row) × (more : List Row) × (rows ≡ seen ++ more) × Leaves now more × RowsRead width seen first columns

-- the next record, or none, is taken
abbrev pub Taken : Bool → Reader (Bor (List ℕ)) → Reader (Bor (List ℕ)) → Row → Type 0
Taken found before after row = (rows : List Row) → Leaves before rows → Takes found row rows (Leaves after)

pub seen_none : (r : Reader (Bor (List ℕ))) (width : ℕ) (columns : List TableColumn) → SeenOf r r width columns columns
seen_none r width columns = λ rows h. ([], rows, refl, h, none_read width columns)

pub seen_more : (init before after : Reader (Bor (List ℕ))) (width : ℕ) (row : Row) (first mid next : List TableColumn)
    → SeenOf init before width first mid → Taken true before after row → length row ≡ width → AllZip (HasGrown row) mid next
    → SeenOf init after width first next
seen_more init before after width row first mid next seen taken e grown = λ rows h.
    let s = seen rows h in
    let t = taken s.1 s.3 in (
      s.0 ++ row ∷ [],
      t.0,
      s.2 ∙ ap (λ (xs : List Row). s.0 ++ xs) t.1 ∙ sym (append_assoc s.0 (row ∷ []) t.0),
      t.2,
      one_read width s.0 row first mid next s.4 e grown,
    )

pub seen_uneven : (init before after : Reader (Bor (List ℕ))) (width : ℕ) (row : Row) (first mid : List TableColumn)
    → SeenOf init before width first mid → Taken true before after row → length row ≢ width
    → (rows : List Row) → Leaves init rows → AreWide width rows → ⊥
seen_uneven init before after width row first mid seen taken n = λ rows h w.
    let s = seen rows h in
    let t = taken s.1 s.3 in
    not_wide width s.0 t.0 row n (subst (AreWide width) (s.2 ∙ ap (λ (xs : List Row). s.0 ++ xs) t.1) w)

pub seen_all : (init before after : Reader (Bor (List ℕ))) (width : ℕ) (row : Row) (first mid : List TableColumn)
    → SeenOf init before width first mid → Taken false before after row
    → (rows : List Row) → Leaves init rows → RowsRead width rows first mid
seen_all init before after width row first mid seen taken = λ rows h.
    let s = seen rows h in
    let none : s.1 ≡ [] = taken s.1 s.3 in
    let all : rows ≡ s.0 = s.2 ∙ ap (λ (xs : List Row). s.0 ++ xs) none ∙ append-nil s.0 in
    subst (λ (xs : List Row). RowsRead width xs first mid) (sym all) s.4

pub there_more : (before after : Reader (Bor (List ℕ))) (row : Row) → Taken true before after row → (rows : List Row) → Leaves before rows
    → (more : List Row) × Leaves after more
there_more before after row taken rows h = let t = taken rows h in (t.0, t.2)
