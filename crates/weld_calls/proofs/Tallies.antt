-- Numbers by their places, each raised by one where its place is listed.
use Rattle.std.proofs.Common.{◌≡◌, ◌≢◌, ℕ, zero, suc, ◌+◌, ◌<◌, leb, le-leb, leb-true, ℤ, pos, negsuc, ◌+ℤ◌, int_eq, Bool, true, false, ◌&&◌, cond, List, [], ◌∷◌, length, filter, Option, Some, None, slice_get, slice_set, ap, sym, refl, ◌∙◌, arith}
use Rattle.std.specs.Cmp.{signed_Decides}
use Rattle.std.specs.List.{list_all}
use Rattle.std.proofs.lemmas.Int.{ints}
use Rattle.std.proofs.lemmas.Option.{slice_get_within, slice_get-get_or}
use Rattle.weld_data.specs.declared.kind.Kind.TheVariants as kinds
use Rattle.weld_data.specs.declared.op.MergeOp.TheVariants as merges
use Rattle.weld_data.specs.Kind.{InRange}
use Rattle.weld_data.specs.Wrapped.{wrapped}
use Rattle.weld_data.specs.Value.{number, struct, no_values, and_value}
use Rattle.weld_data.proofs.Wrapping.{IsWrapped-wrapped, wrapped-in_range, wrapped-add_left}
use Rattle.weld_builders.specs.Outcome.{Outcome, done, fault, and_then, map_out, or_fault}
use Rattle.weld_builders.specs.Part.{Part, cells_part, merge_part}
use Rattle.weld_builders.specs.Range.{AllInRange}
use Rattle.weld_calls.specs.Lists.{how_many, is_place, tallied}
use Rattle.weld_calls.specs.Folds.{folded}

abbrev raised : ℤ → ℤ
raised x = wrapped kinds.I64 (x +ℤ pos 1)

set_in_range : (xs : List ℤ) (n : ℕ) (y : ℤ) → AllInRange kinds.I64 xs → InRange kinds.I64 y → AllInRange kinds.I64 (slice_set xs n y)
set_in_range [] n y h r = h
set_in_range (x ∷ xs) zero y h r = (r, h.1)
set_in_range (x ∷ xs) (suc n) y h r = (h.0, set_in_range xs n y h.1 r)

length_set : (xs : List ℤ) (n : ℕ) (y : ℤ) → length (slice_set xs n y) ≡ length xs
length_set [] n y = refl
length_set (x ∷ xs) zero y = refl
length_set (x ∷ xs) (suc n) y = ap suc (length_set xs n y)

-- ---- how often a place is listed

same_number : (x : ℤ) (is : List ℤ) → how_many (int_eq x) (x ∷ is) ≡ suc (how_many (int_eq x) is)
same_number x is = ap (λ b. length (cond b (x ∷ filter (int_eq x) is) (filter (int_eq x) is))) ((signed_Decides x x).1 refl)

other_number : (x y : ℤ) (is : List ℤ) → x ≢ y → how_many (int_eq x) (y ∷ is) ≡ how_many (int_eq x) is
other_number x y is ne = by (int_eq x y) (λ e. (signed_Decides x y).0 e)
  where
    by : (b : Bool) → (b ≡ true → x ≡ y) → length (cond b (y ∷ filter (int_eq x) is) (filter (int_eq x) is)) ≡ length (filter (int_eq x) is)
    by true h = absurd (ne (h refl))
    by false h = refl

-- ---- tallies

tallied_none : (place : ℕ) (xs : List ℤ) → AllInRange kinds.I64 xs → tallied place xs [] ≡ xs
tallied_none place [] h = refl
tallied_none place (x ∷ xs) h =
    let same : x +ℤ pos 0 ≡ x = omega (arith, ints) in
    λ i. (ap (wrapped kinds.I64) same ∙ wrapped-in_range kinds.I64 x h.0) i ∷ tallied_none (suc place) xs h.1 i

-- a place before all of these counts for none of them
tallied_before : (place n : ℕ) (xs is : List ℤ) → n < place → tallied place xs (pos n ∷ is) ≡ tallied place xs is
tallied_before place n [] is h = refl
tallied_before place n (x ∷ xs) is h =
    λ i. wrapped kinds.I64 (x +ℤ pos (other_number (pos place) (pos n) is (λ e. let f : place ≡ n = omega (arith, ints, e) in omega (arith, f, h)) i)) ∷ tallied_before (suc place) n xs is (omega (arith, h)) i

nothing : {x : ℤ} → None ≡ Some x → ⊥
nothing e = cc

tallied_set : (place n : ℕ) (xs is : List ℤ) (x : ℤ) → slice_get xs n ≡ Some x → tallied place (slice_set xs n (raised x)) is ≡ tallied place xs (pos (place + n) ∷ is)
tallied_set place n [] is x e = absurd (nothing e)
tallied_set place zero (y ∷ xs) is x e =
    let there : y ≡ x = cc in
    let here : place + 0 ≡ place = omega arith in
    (λ i. (wrapped-add_left kinds.I64 (x +ℤ pos 1) (pos (how_many (int_eq (pos place)) is)) ∙ ap (wrapped kinds.I64) (omega (arith, ints)) ∙ ap (λ c. wrapped kinds.I64 (x +ℤ pos c)) (sym (same_number (pos place) is)) ∙ ap (λ z. wrapped kinds.I64 (z +ℤ pos (how_many (int_eq (pos place)) (pos place ∷ is)))) (sym there)) i
    ∷ sym (tallied_before (suc place) place xs is (omega arith)) i)
    ∙ ap (λ m. tallied place (y ∷ xs) (pos m ∷ is)) (sym here)
tallied_set place (suc n) (y ∷ xs) is x e =
    let further : suc place + n ≡ place + suc n = omega arith in
    λ i. wrapped kinds.I64 (y +ℤ pos (sym (other_number (pos place) (pos (place + suc n)) is (λ d. let f : place ≡ place + suc n = omega (arith, ints, d) in omega (arith, f))) i))
    ∷ (tallied_set (suc place) n xs is x e ∙ ap (λ m. tallied (suc place) xs (pos m ∷ is)) further) i

-- ---- a loop over the places

abbrev pub raise : Part → ℤ → Outcome Part
raise q i = merge_part q (struct (and_value (number kinds.I64 i) (and_value (number kinds.I64 (pos 1)) no_values)))

abbrev pub cells : List ℤ → Part
cells xs = cells_part merges.Add kinds.I64 xs

abbrev pub tallies : List ℤ → List ℤ → Outcome Part
tallies xs is = cond (list_all (is_place (length xs)) is) (done (cells (tallied 0 xs is))) fault

outside : (xs : List ℤ) (n : ℕ) → slice_get xs n ≡ None → leb (suc n) (length xs) ≡ false
outside xs n e = by (leb (suc n) (length xs)) refl
  where
    by : (b : Bool) → leb (suc n) (length xs) ≡ b → b ≡ false
    by true t = absurd (nothing (sym e ∙ slice_get-get_or xs n (pos 0) (leb-true (suc n) (length xs) t)))
    by false t = refl

pub tallied_fold : (xs is : List ℤ) → AllInRange kinds.I64 xs → folded raise (cells xs) is ≡ tallies xs is
tallied_fold xs [] h = ap (λ ys. done (cells ys)) (sym (tallied_none 0 xs h))
tallied_fold xs (negsuc n ∷ is) h = refl
tallied_fold xs (pos n ∷ is) h =
    by (slice_get xs n) refl (λ x. tallied_fold (slice_set xs n (raised x)) is (set_in_range xs n (raised x) h (IsWrapped-wrapped kinds.I64 (x +ℤ pos 1)).in_range))
  where
    by : (o : Option ℤ) → slice_get xs n ≡ o → ((x : ℤ) → folded raise (cells (slice_set xs n (raised x))) is ≡ tallies (slice_set xs n (raised x)) is)
        → and_then (map_out cells (map_out (λ x. slice_set xs n (raised x)) (or_fault o))) (λ q. folded raise q is) ≡ cond (leb (suc n) (length xs) && list_all (is_place (length xs)) is) (done (cells (tallied 0 xs (pos n ∷ is)))) fault
    by None e k = ap (λ b. cond (b && list_all (is_place (length xs)) is) (done (cells (tallied 0 xs (pos n ∷ is)))) fault) (sym (outside xs n e))
    by (Some x) e k =
        let zero_more : 0 + n ≡ n = omega arith in
        k x
        ∙ (λ i. cond (list_all (is_place (length_set xs n (raised x) i)) is) (done (cells ((tallied_set 0 n xs is x e ∙ ap (λ m. tallied 0 xs (pos m ∷ is)) zero_more) i))) fault)
        ∙ ap (λ b. cond (b && list_all (is_place (length xs)) is) (done (cells (tallied 0 xs (pos n ∷ is)))) fault) (sym (le-leb (suc n) (length xs) (slice_get_within xs n x e)))
