-- Each run has a note: the rows of each loop are cut.
use Rattle.std.proofs.Common.{◌≡◌, ℕ, zero, suc, ◌+◌, ◌-◌, ◌<◌, ◌≤◌, ◌⊎◌, inl, inr, List, [], ◌∷◌, ◌++◌, length, refl, arith}
use Rattle.std.specs.List.{sum}
use Rattle.std.proofs.lemmas.Bool.{cases_lt}
use Rattle.std.proofs.Math.Nat.{eq-or-lt_of_le}
use Rattle.weld_data.specs.Value.{Value}
use Rattle.weld_tree.specs.Program.{ProgramTree, loops}
use Rattle.weld_tiles.specs.Tiling.{middle, Halves, empty, whole, halved}
use Rattle.weld_plan.specs.SharedRows.{program_rows}
use Rattle.weld_sizes.specs.Lanes.{lane_marks}
use Rattle.weld_sizes.specs.Marks.{set_among}
use Rattle.weld_sizes.specs.Sized.{sized_marks}
use Rattle.weld_share.specs.Counts.{AreCut, AreAllCut, IsNote}
use Rattle.weld_share.specs.declared.note.RunNote.{RunNote}

abbrev AreHalved : ℕ → ℕ → ℕ → Type 0
AreHalved cut lo hi = (ranges : List (ℕ × ℕ)) × Halves cut lo hi ranges

both : (cut lo hi : ℕ) → cut < hi - lo → AreHalved cut lo (middle lo hi) → AreHalved cut (middle lo hi) hi → AreHalved cut lo hi
both cut lo hi l f s = (f.0 ++ s.0, halved lo hi f.0 s.0 l f.1 s.1)

halves_exist : (cut : ℕ) → 1 ≤ cut → (k lo hi : ℕ) → lo ≤ hi → hi - lo ≤ k → AreHalved cut lo hi
halves_exist cut c zero lo hi l b = ([], empty lo hi (omega (arith, l, b)))
halves_exist cut c (suc k) lo hi l b = by (halves_exist cut c k) (cases_lt cut (hi - lo))
  where
    short : (lo ≡ hi) ⊎ (lo < hi) → hi - lo ≤ cut → AreHalved cut lo hi
    short (inl e) s = ([], empty lo hi e)
    short (inr m) s = ((lo, hi) ∷ [], whole lo hi m s)

    by : ((from to : ℕ) → from ≤ to → to - from ≤ k → AreHalved cut from to) → (cut < hi - lo) ⊎ (hi - lo ≤ cut) → AreHalved cut lo hi
    by shorter (inr s) = short (eq-or-lt_of_le l) s
    by shorter (inl m) =
        both cut lo hi m (shorter lo (middle lo hi) (omega (arith, l, b, c, m)) (omega (arith, l, b, c, m)))
        (shorter (middle lo hi) hi (omega (arith, l, b, c, m)) (omega (arith, l, b, c, m)))

rows_cut : (cut : ℕ) → 1 ≤ cut → (rows : ℕ) → (n : ℕ) × AreCut cut rows n
rows_cut cut c rows = let h = halves_exist cut c rows 0 rows (omega arith) (omega arith) in (length h.0, (h.0, h.1, refl))

all_cut : (cut : ℕ) → 1 ≤ cut → (rows : List ℕ) → (n : ℕ) × AreAllCut cut rows n
all_cut cut c [] = (0, refl)
all_cut cut c (rows ∷ more) =
    let f = rows_cut cut c rows in let s = all_cut cut c more in (f.0 + s.0, (f.0, s.0, f.1, s.1, refl))

pub note_exists : (p : ProgramTree) (vs : List Value) (cut : ℕ) → 1 ≤ cut → (note : RunNote) × IsNote p vs cut note
note_exists p vs cut c =
    let tiles = all_cut cut c (program_rows p vs) in
    let note : RunNote = record { loops = loops p.body; sized = set_among (sized_marks p.body); lanes = set_among (lane_marks p.body); tiles = tiles.0; turns = sum (program_rows p vs) } in
    (note, record { loops = refl; sized = refl; lanes = refl; tiles = tiles.1; turns = refl })
