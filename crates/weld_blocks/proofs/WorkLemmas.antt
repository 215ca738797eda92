-- Numbers that an operator or a choice makes of numbers, place by place.
use Rattle.std.proofs.Common.{◌≡◌, ◌≢◌, ◌⊎◌, inl, inr, ℕ, zero, suc, ◌<◌, ◌≤◌, Bool, true, false, if◌then◌else◌, ℤ, pos, int_div, int_rem, FitsSigned, w64, List, [], ◌∷◌, length, take, drop, map, slice_get, get_or, replicate, ◌++◌, ◌+◌, ◌-◌, Option, Some, None, option_map, refl, sym, ap, ◌∙◌, subst, arith}
use Rattle.std.proofs.lemmas.Int.{ints}
use Rattle.std.proofs.Math.Seq.{take-append_seam}
use Rattle.std.proofs.lemmas.Bool.{cases_lt}
use Rattle.std.proofs.lemmas.Bool.Decides.{Decides-int_eq}
use Rattle.std.proofs.lemmas.Option.{slice_get-map}
use Rattle.std.proofs.lemmas.List.{get_or_past, get_or-replicate}
use Rattle.std.specs.Ordering.{int_eq}
use Rattle.weld_data.specs.declared.kind.Kind.{Kind}
use Rattle.weld_data.specs.declared.kind.Kind.TheVariants as kinds
use Rattle.weld_data.specs.declared.op.BinOp.{BinOp}
use Rattle.weld_data.specs.declared.op.BinOp.TheVariants as ops
use Rattle.weld_data.specs.Kind.{InRange}
use Rattle.weld_data.specs.Operation.{TakesKind, operation, answer_kind}
use Rattle.weld_data.specs.Wrapped.{wrapped}
use Rattle.weld_data.specs.Value.{Value, number}
use Rattle.weld_builders.specs.Outcome.{done}
use Rattle.weld_meaning.specs.Evaluation.{operated, truth_of}
use Rattle.weld_eval.specs.Word.{of_word}
use Rattle.weld_eval.proofs.Words.{zero_words}
use Rattle.weld_blocks.specs.Numbers.{number_at, AreGiven, MayGive, IsChosen}
use Rattle.weld_blocks.specs.declared.numbers.Numbers.{Numbers}
use Rattle.weld_blocks.specs.Works.{AreInRange, AreWorked, AreChosen}
use Rattle.weld_blocks.proofs.Scalars.{operated_some}

zero_of : (k : Kind) → InRange k (of_word k (pos 0))
zero_of kinds.Bool = record { low = omega (arith, ints); high = omega (arith, ints) }
zero_of kinds.I8 = record { low = omega (arith, ints); high = omega (arith, ints) }
zero_of kinds.I16 = record { low = omega (arith, ints); high = omega (arith, ints) }
zero_of kinds.I32 = record { low = omega (arith, ints); high = omega (arith, ints) }
zero_of kinds.I64 = record { low = omega (arith, ints); high = omega (arith, ints) }
zero_of kinds.U8 = record { low = omega (arith, ints); high = omega (arith, ints) }
zero_of kinds.U16 = record { low = omega (arith, ints); high = omega (arith, ints) }
zero_of kinds.U32 = record { low = omega (arith, ints); high = omega (arith, ints) }
zero_of kinds.U64 = record { low = omega (arith, ints); high = omega (arith, ints) }

-- what is in range as far as there are numbers is so everywhere
pub all_in_range : (k : Kind) (zs : List ℤ) (count : ℕ) → length zs ≡ count → ((place : ℕ) → place < count → InRange k (of_word k (get_or zs place (pos 0)))) → AreInRange k zs
all_in_range k zs count long h place = by (cases_lt place count)
  where
    by : (place < count) ⊎ (count ≤ place) → InRange k (of_word k (get_or zs place (pos 0)))
    by (inl less) = h place less
    by (inr more) = subst (λ z. InRange k (of_word k z)) (sym (get_or_past zs place (pos 0) (omega (arith, long)))) (zero_of k)

pub worked_in_range : (op : BinOp) (k : Kind) (xs ys zs : List ℤ) (count : ℕ) → AreWorked op k xs ys zs count → AreInRange (answer_kind op k) zs
worked_in_range op k xs ys zs count h = all_in_range (answer_kind op k) zs count h.long h.in_range

pub worked_given : (op : BinOp) (k : Kind) (left right c : Numbers) (count : ℕ) → left.kind ≡ k → right.kind ≡ k → TakesKind op k → c.kind ≡ answer_kind op k
    → AreWorked op k left.items.items right.items.items c.items.items count → AreGiven (λ j v. operated op (number_at left j) (number_at right j) ≡ done v) c count
worked_given op k left right c count l r takes answer h = record {
  long = h.long;
  each = λ j less.
      let x : ℤ = get_or left.items.items j (pos 0) in
      let y : ℤ = get_or right.items.items j (pos 0) in
      let z : ℤ = get_or c.items.items j (pos 0) in
      ap (λ (m : Kind). operated op (number m (of_word m x)) (number right.kind (of_word right.kind y))) l
      ∙ ap (λ (m : Kind). operated op (number k (of_word k x)) (number m (of_word m y))) r
      ∙ operated_some op k k (of_word k x) (of_word k y) (of_word (answer_kind op k) z)
      (k, takes, (refl, subst (λ m. InRange m (of_word m x)) l (left.in_range j)), (refl, subst (λ m. InRange m (of_word m y)) r (right.in_range j))) (h.each j less)
      ∙ ap (λ (m : Kind). done (number m (of_word m z))) (sym answer);
}

-- ---- division

not_zero : (y : ℤ) → y ≢ pos 0 → int_eq y (pos 0) ≡ false
not_zero y ne = by (int_eq y (pos 0)) refl
  where
    by : (b : Bool) → int_eq y (pos 0) ≡ b → b ≡ false
    by true e = absurd (ne ((Decides-int_eq y (pos 0)).0 e))
    by false e = refl

-- what an operator that divides answers, where it doesn't divide by 0
divided : (k : Kind) (y z : ℤ) → FitsSigned w64 y → y ≢ pos 0 → Some z ≡ (if int_eq (of_word k y) (pos 0) then None else Some z)
divided k y z f ne = sym (ap (λ (b : Bool). if b then None else Some z) (sym (zero_words k y f) ∙ not_zero y ne))

pub quotient_given : (k : Kind) (x y r : ℤ) → FitsSigned w64 y → y ≢ pos 0 → of_word k r ≡ wrapped k (int_div (of_word k x) (of_word k y)) → Some (of_word k r) ≡ operation ops.Div k (of_word k x) (of_word k y)
quotient_given k x y r f ne e = ap Some e ∙ divided k y (wrapped k (int_div (of_word k x) (of_word k y))) f ne

pub remainder_given : (k : Kind) (x y r : ℤ) → FitsSigned w64 y → y ≢ pos 0 → of_word k r ≡ int_rem (of_word k x) (of_word k y) → Some (of_word k r) ≡ operation ops.Rem k (of_word k x) (of_word k y)
remainder_given k x y r f ne e = ap Some e ∙ divided k y (int_rem (of_word k x) (of_word k y)) f ne

-- ---- choices

number_by : (b : Bool) (m k l : Kind) (x y z : ℤ) → m ≡ k → m ≡ l → z ≡ (if b then x else y) → number m (of_word m z) ≡ (if b then number k (of_word k x) else number l (of_word l y))
number_by true m k l x y z p q e = ap (λ (n : Kind). number n (of_word n z)) p ∙ ap (λ w. number k (of_word k w)) e
number_by false m k l x y z p q e = ap (λ (n : Kind). number n (of_word n z)) q ∙ ap (λ w. number l (of_word l w)) e

range_by : (b : Bool) (k : Kind) (x y z : ℤ) → z ≡ (if b then x else y) → InRange k (of_word k x) → InRange k (of_word k y) → InRange k (of_word k z)
range_by true k x y z e p q = subst (λ w. InRange k (of_word k w)) (sym e) p
range_by false k x y z e p q = subst (λ w. InRange k (of_word k w)) (sym e) q

pub chosen_in_range : (k : Kind) (ts xs ys zs : List ℤ) (count : ℕ) → AreInRange k xs → AreInRange k ys → AreChosen ts xs ys zs count → AreInRange k zs
chosen_in_range k ts xs ys zs count p q h =
    all_in_range k zs count h.long
    (λ j less. range_by (int_eq (get_or ts j (pos 0)) (pos 1)) k (get_or xs j (pos 0)) (get_or ys j (pos 0)) (get_or zs j (pos 0)) (h.each j less) (p j) (q j))

pub chosen_given : (t x y c : Numbers) (count : ℕ) → t.kind ≡ kinds.Bool → x.kind ≡ y.kind → c.kind ≡ x.kind → AreChosen t.items.items x.items.items y.items.items c.items.items count
    → AreGiven (λ j v. IsChosen (number_at t j) (number_at x j) (number_at y j) v) c count
chosen_given t x y c count truths same kind h = record {
  long = h.long;
  each = λ j less.
      let b : Bool = int_eq (get_or t.items.items j (pos 0)) (pos 1) in (
        b,
        ap (λ (m : Kind). truth_of (number m (of_word m (get_or t.items.items j (pos 0))))) truths,
        number_by b c.kind x.kind y.kind (get_or x.items.items j (pos 0)) (get_or y.items.items j (pos 0)) (get_or c.items.items j (pos 0)) kind (kind ∙ same) (h.each j less),
      );
}

-- ---- parts of an array

taken_element : {T : Type 0} (xs : List T) (n j : ℕ) → j < n → slice_get (take n xs) j ≡ slice_get xs j
taken_element xs zero j less = absurd (omega (arith, less))
taken_element [] (suc n) j less = refl
taken_element (x ∷ xs) (suc n) zero less = refl
taken_element (x ∷ xs) (suc n) (suc j) less = taken_element xs n j (omega (arith, less))

dropped_element : {T : Type 0} (xs : List T) (from j : ℕ) → slice_get (drop from xs) j ≡ slice_get xs (from + j)
dropped_element xs zero j = let e : j ≡ 0 + j = omega arith in ap (slice_get xs) e
dropped_element [] (suc n) j = refl
dropped_element (x ∷ xs) (suc n) j = dropped_element xs n j ∙ (let e : suc (n + j) ≡ suc n + j = omega arith in ap (slice_get (x ∷ xs)) e)

part_element : {T : Type 0} (f : T → Value) (xs part : List T) (from count j : ℕ) → j < count → part ≡ take (from + count - from) (drop from xs) → slice_get (map f part) j ≡ slice_get (map f xs) (from + j)
part_element f xs part from count j less is =
    slice_get-map f part j
    ∙ ap (option_map f) (ap (λ ys. slice_get ys j) is ∙ taken_element (drop from xs) (from + count - from) j (omega (arith, less)) ∙ dropped_element xs from j)
    ∙ sym (slice_get-map f xs (from + j))

-- the elements from a place on
pub part_given : {T : Type 0} (f : T → Value) (xs part : List T) (from count : ℕ) (r : Option Numbers) → from + count ≤ length xs → part ≡ take (from + count - from) (drop from xs) → MayGive (λ j v. slice_get (map f part) j ≡ Some v) r count
    → MayGive (λ j v. slice_get (map f xs) (from + j) ≡ Some v) r count
part_given f xs part from count None within is h = tt
part_given f xs part from count (Some c) within is h = record {
  long = h.long;
  each = λ j less. sym (part_element f xs part from count j less is) ∙ h.each j less;
}

-- ---- one number at each place

pub one_in_range : (k : Kind) (x : ℤ) (zs : List ℤ) (count : ℕ) → InRange k (of_word k x) → zs ≡ replicate count x → length zs ≡ count → AreInRange k zs
one_in_range k x zs count h is long = all_in_range k zs count long (λ j less. subst (λ z. InRange k (of_word k z)) (sym (ap (λ (ys : List ℤ). get_or ys j (pos 0)) is ∙ get_or-replicate count j x (pos 0) less)) h)

-- the same of lists that are those of the numbers
pub chosen_from : (t x y c : Numbers) (ts xs ys : List ℤ) (count : ℕ) → t.kind ≡ kinds.Bool → x.kind ≡ y.kind → c.kind ≡ x.kind → ts ≡ t.items.items → xs ≡ x.items.items → ys ≡ y.items.items → AreChosen ts xs ys c.items.items count
    → AreGiven (λ j v. IsChosen (number_at t j) (number_at x j) (number_at y j) v) c count
chosen_from t x y c ts xs ys count truths same kind p q r h =
    chosen_given t x y c count truths same kind
    (subst (λ (us : List ℤ). AreChosen us x.items.items y.items.items c.items.items count) p
    (subst (λ (us : List ℤ). AreChosen ts us y.items.items c.items.items count) q (subst (λ (us : List ℤ). AreChosen ts xs us c.items.items count) r h)))

pub chosen_into : (t x y : Numbers) (ts xs ys zs : List ℤ) (count : ℕ) → t.kind ≡ kinds.Bool → x.kind ≡ y.kind → ts ≡ t.items.items → xs ≡ x.items.items → ys ≡ y.items.items → AreChosen ts xs ys zs count
    → (c : Numbers) → c.kind ≡ x.kind → c.items.items ≡ zs → AreGiven (λ j v. IsChosen (number_at t j) (number_at x j) (number_at y j) v) c count
chosen_into t x y ts xs ys zs count truths same p q r h c kind is =
    chosen_from t x y c ts xs ys count truths same kind p q r (subst (λ (us : List ℤ). AreChosen ts xs ys us count) (sym is) h)

-- what was written over a whole array
pub whole_array : (n : ℕ) (zs ws : List ℤ) → length zs ≡ n → take n (zs ++ ws) ≡ zs
whole_array n zs ws e = ap (λ (k : ℕ). take k (zs ++ ws)) (sym e) ∙ take-append_seam zs ws
