-- Places tallied one after another.
use Rattle.std.proofs.Common.{◌≡◌, Bool, true, false, cond, ℕ, ◌+◌, ◌<◌, ◌≤◌, zero, suc, ℤ, pos, negsuc, List, [], ◌∷◌, drop, length, slice_index_or, slice_set, Some, ap, sym, refl, subst, ◌∙◌, arith}
use Rattle.std.specs.List.{list_all}
use Rattle.std.proofs.lemmas.Option.{slice_get-get_or, slice_get_past}
use Rattle.weld_data.specs.declared.kind.Kind.TheVariants as kinds
use Rattle.weld_data.specs.declared.op.MergeOp.TheVariants as merges
use Rattle.weld_data.specs.Kind.{InRange}
use Rattle.weld_data.specs.Operation.{combination}
use Rattle.weld_data.specs.Value.{Value}
use Rattle.weld_builders.specs.Outcome.{Outcome, done, fault, and_then, map_out, or_fault}
use Rattle.weld_builders.specs.Part.{merge_cell, result_of}
use Rattle.weld_builders.specs.Range.{AllInRange}
use Rattle.weld_pieces.specs.Answer.{IsOutside}
use Rattle.weld_calls.specs.Lists.{number_vector, is_place, tallied}
use Rattle.weld_calls.specs.CallMeaning.{histogram_meaning}
use Rattle.weld_calls.specs.Folds.{folded}
use Rattle.weld_calls.proofs.Tallies.{raise, cells, tallies, tallied_fold}
use Rattle.weld_eager.specs.Reading.{IsPlaceAmong}
use Rattle.weld_eager.proofs.Words.{bits, bits_are, bits_in_range, all_in_range_at, read_in_range}
use Rattle.weld_eager.proofs.Combining.{left_from}

tallied_result : (xs is : List ℤ) → map_out result_of (tallies xs is) ≡ histogram_meaning is xs
tallied_result xs is = by (list_all (is_place (length xs)) is)
  where
    by : (b : Bool) → map_out result_of (cond b (done (cells (tallied 0 xs is))) fault) ≡ cond b (done (result_of (cells (tallied 0 xs is)))) fault
    by true = refl
    by false = refl

-- the cells stand in for the starts, with the places that are left
abbrev pub TalliedSoFar : List ℤ → List ℤ → ℕ → List ℤ → Type 0
TalliedSoFar starts places i now = folded raise (cells starts) places ≡ folded raise (cells now) (drop i places)

raised_to : (old : List ℤ) (x : ℤ) (o : Outcome (List ℤ)) (rest : List ℤ) → merge_cell merges.Add kinds.I64 old x (pos 1) ≡ o → folded raise (cells old) (x ∷ rest) ≡ and_then (map_out cells o) (λ q. folded raise q rest)
raised_to old x o rest e = ap (λ p. and_then (map_out cells p) (λ q. folded raise q rest)) e

cell_raised : (old : List ℤ) (x w y : ℤ) (place : ℕ) → AllInRange kinds.I64 old → InRange kinds.I64 y → x ≡ pos place → place < length old → w ≡ slice_index_or old place w → y ≡ combination merges.Add kinds.I64 (bits w) (pos 1)
    → merge_cell merges.Add kinds.I64 old x (pos 1) ≡ done (slice_set old place (bits y))
cell_raised old x w y place h g at l was is =
    let now : bits y ≡ combination merges.Add kinds.I64 w (pos 1) = bits_are kinds.I64 y g ∙ is ∙ ap (λ z. combination merges.Add kinds.I64 z (pos 1)) (bits_are kinds.I64 w (read_in_range kinds.I64 old place w h l was)) in
    ap (λ z. merge_cell merges.Add kinds.I64 old z (pos 1)) at
    ∙ ap (λ o. map_out (λ z. slice_set old place (combination merges.Add kinds.I64 z (pos 1))) (or_fault o)) (slice_get-get_or old place w l ∙ ap Some (sym was))
    ∙ ap (λ z. done (slice_set old place z)) (sym now)

cell_outside : (old : List ℤ) (x : ℤ) → IsOutside x (length old) → merge_cell merges.Add kinds.I64 old x (pos 1) ≡ fault
cell_outside old (pos i) o = ap (λ r. map_out (λ w. slice_set old i (combination merges.Add kinds.I64 w (pos 1))) (or_fault r)) (slice_get_past old i o)
cell_outside old (negsuc i) o = refl

place_is : (places : List ℤ) (i : ℕ) → AllInRange kinds.I64 places → i < length places → bits (slice_index_or places i (pos 0)) ≡ slice_index_or places i (pos 0)
place_is places i h l = bits_are kinds.I64 _ (all_in_range_at kinds.I64 places i (pos 0) h l)

pub tallied_more : (starts places : List ℤ) (i : ℕ) (old : List ℤ) (w y : ℤ) (place count : ℕ) → AllInRange kinds.I64 places → i < length places → AllInRange kinds.I64 old → InRange kinds.I64 y
    → IsPlaceAmong (bits (slice_index_or places i (pos 0))) place count → count ≡ length old → w ≡ slice_index_or old place w → y ≡ combination merges.Add kinds.I64 (bits w) (pos 1)
    → TalliedSoFar starts places i old → TalliedSoFar starts places (i + 1) (slice_set old place (bits y)) × AllInRange kinds.I64 (slice_set old place (bits y))
tallied_more starts places i old w y place count h l f g p c was is so =
    let at : slice_index_or places i (pos 0) ≡ pos place = sym (place_is places i h l) ∙ p.0 in
    let within : place < length old = subst (λ m. place < m) c p.1 in (
      so ∙ ap (folded raise (cells old)) (left_from places i l)
          ∙ raised_to old (slice_index_or places i (pos 0)) (done (slice_set old place (bits y))) (drop (i + 1) places) (cell_raised old _ w y place f g at within was is),
      all_in_range_set old place (bits y) f (bits_in_range kinds.I64 y g),
    )
  where
    all_in_range_set : (xs : List ℤ) (i : ℕ) (y : ℤ) → AllInRange kinds.I64 xs → InRange kinds.I64 y → AllInRange kinds.I64 (slice_set xs i y)
    all_in_range_set [] i y h r = h
    all_in_range_set (x ∷ xs) zero y h r = (r, h.1)
    all_in_range_set (x ∷ xs) (suc i) y h r = (h.0, all_in_range_set xs i y h.1 r)

faulted : (starts places : List ℤ) → AllInRange kinds.I64 starts → folded raise (cells starts) places ≡ fault → histogram_meaning places starts ≡ fault
faulted starts places h e = sym (tallied_result starts places) ∙ ap (map_out result_of) (sym (tallied_fold starts places h) ∙ e)

pub tallied_stops : (starts places : List ℤ) (i count : ℕ) (old : List ℤ) → AllInRange kinds.I64 starts → AllInRange kinds.I64 places → i < length places
    → IsOutside (bits (slice_index_or places i (pos 0))) count → count ≡ length old → TalliedSoFar starts places i old → histogram_meaning places starts ≡ fault
tallied_stops starts places i count old g h l o c so =
    let x = slice_index_or places i (pos 0) in
    let out : IsOutside x (length old) = subst (λ y. IsOutside y (length old)) (place_is places i h l) (subst (IsOutside (bits x)) c o) in
    faulted starts places g (so ∙ ap (folded raise (cells old)) (left_from places i l) ∙ raised_to old x fault (drop (i + 1) places) (cell_outside old x out))

pub tallied_all : (starts places : List ℤ) (i : ℕ) (now : List ℤ) → AllInRange kinds.I64 starts → length places ≤ i → TalliedSoFar starts places i now → histogram_meaning places starts ≡ done (number_vector kinds.I64 now)
tallied_all starts places i now g l so =
    sym (tallied_result starts places) ∙ ap (map_out result_of) (sym (tallied_fold starts places g) ∙ so ∙ ap (folded raise (cells now)) (past places i l))
  where
    past : (xs : List ℤ) (i : ℕ) → length xs ≤ i → drop i xs ≡ []
    past [] zero h = refl
    past [] (suc i) h = refl
    past (x ∷ xs) zero h = absurd (omega (arith, h))
    past (x ∷ xs) (suc i) h = past xs i (omega (arith, h))

-- ---- the answer

pub tallied_answer : (is js xs ys now : List ℤ) (v : Value) → is ≡ js → xs ≡ ys → histogram_meaning is xs ≡ done (number_vector kinds.I64 now) → v ≡ number_vector kinds.I64 now → histogram_meaning js ys ≡ done v
tallied_answer is js xs ys now v e f h c = (λ i. histogram_meaning (sym e i) (sym f i)) ∙ h ∙ ap done (sym c)

pub tallied_none : (is js xs ys : List ℤ) → is ≡ js → xs ≡ ys → histogram_meaning is xs ≡ fault → histogram_meaning js ys ≡ fault
tallied_none is js xs ys e f h = (λ i. histogram_meaning (sym e i) (sym f i)) ∙ h
