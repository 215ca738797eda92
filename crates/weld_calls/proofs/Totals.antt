-- A total's fold is the wrapped sum, the least or the greatest.
use Rattle.std.proofs.Common.{◌≡◌, ℤ, pos, ◌+ℤ◌, ◌≤ℤ◌, List, [], ◌∷◌, map, map-id, ap, sym, refl, ◌∙◌, arith}
use Rattle.std.proofs.Math.IntN.{+ℤ_comm}
use Rattle.std.proofs.lemmas.Int.{ints, clamps}
use Rattle.weld_data.specs.declared.kind.Kind.{Kind}
use Rattle.weld_data.specs.declared.kind.Kind.TheVariants as kinds
use Rattle.weld_data.specs.declared.op.MergeOp.{MergeOp}
use Rattle.weld_data.specs.declared.op.MergeOp.TheVariants as merges
use Rattle.weld_data.specs.Kind.{InRange, least, greatest}
use Rattle.weld_data.specs.Wrapped.{wrapped}
use Rattle.weld_data.specs.Operation.{combination, start_of}
use Rattle.weld_data.proofs.Wrapping.{wrapped-in_range, wrapped-add_left}
use Rattle.weld_calls.specs.Folds.{combined_all}
use Rattle.weld_calls.specs.Lists.{sum, wrapped_sum, least_of, greatest_of}

-- what the numbers come to as a list
abbrev pub total_of : MergeOp → Kind → List ℤ → ℤ
total_of merges.Add k xs = wrapped_sum k xs
total_of merges.Mul k xs = combined_all merges.Mul k (pos 1) xs
total_of merges.Min k xs = least_of k xs
total_of merges.Max k xs = greatest_of k xs

zero_in_range : (k : Kind) → InRange k (pos 0)
zero_in_range kinds.Bool = record { low = omega (arith, ints); high = omega (arith, ints) }
zero_in_range kinds.I8 = record { low = omega (arith, ints); high = omega (arith, ints) }
zero_in_range kinds.I16 = record { low = omega (arith, ints); high = omega (arith, ints) }
zero_in_range kinds.I32 = record { low = omega (arith, ints); high = omega (arith, ints) }
zero_in_range kinds.I64 = record { low = omega (arith, ints); high = omega (arith, ints) }
zero_in_range kinds.U8 = record { low = omega (arith, ints); high = omega (arith, ints) }
zero_in_range kinds.U16 = record { low = omega (arith, ints); high = omega (arith, ints) }
zero_in_range kinds.U32 = record { low = omega (arith, ints); high = omega (arith, ints) }
zero_in_range kinds.U64 = record { low = omega (arith, ints); high = omega (arith, ints) }

pub wrapped_zero : (k : Kind) → wrapped k (pos 0) ≡ pos 0
wrapped_zero k = wrapped-in_range k (pos 0) (zero_in_range k)

pub wrapped-add_right : (k : Kind) (x y : ℤ) → wrapped k (x +ℤ wrapped k y) ≡ wrapped k (x +ℤ y)
wrapped-add_right k x y =
    ap (wrapped k) (+ℤ_comm x (wrapped k y)) ∙ wrapped-add_left k y x ∙ ap (wrapped k) (+ℤ_comm y x)

summed_from : (k : Kind) (a : ℤ) (xs : List ℤ) → combined_all merges.Add k (wrapped k a) xs ≡ wrapped k (a +ℤ sum xs)
summed_from k a [] = ap (wrapped k) (omega (arith, ints))
summed_from k a (x ∷ xs) =
    ap (λ b. combined_all merges.Add k b xs) (wrapped-add_left k a x) ∙ summed_from k (a +ℤ x) xs
    ∙ ap (wrapped k) (omega (arith, ints))

summed : (k : Kind) (xs : List ℤ) → combined_all merges.Add k (pos 0) xs ≡ wrapped_sum k xs
summed k xs =
    ap (λ b. combined_all merges.Add k b xs) (sym (wrapped_zero k)) ∙ summed_from k (pos 0) xs
    ∙ ap (wrapped k) (omega (arith, ints))

least_from : (k : Kind) (a : ℤ) (xs : List ℤ) → a ≤ℤ greatest k → combined_all merges.Min k a xs ≡ combination merges.Min k a (least_of k xs)
least_from k a [] h = omega (arith, ints, clamps, h)
least_from k a (x ∷ xs) h = least_from k (combination merges.Min k a x) xs (omega (arith, ints, clamps, h)) ∙ omega (arith, ints, clamps)

below_greatest : (k : Kind) (xs : List ℤ) → least_of k xs ≤ℤ greatest k
below_greatest k [] = omega (arith, ints)
below_greatest k (x ∷ xs) = let h = below_greatest k xs in omega (arith, ints, clamps, h)

greatest_from : (k : Kind) (a : ℤ) (xs : List ℤ) → least k ≤ℤ a → combined_all merges.Max k a xs ≡ combination merges.Max k a (greatest_of k xs)
greatest_from k a [] h = omega (arith, ints, clamps, h)
greatest_from k a (x ∷ xs) h = greatest_from k (combination merges.Max k a x) xs (omega (arith, ints, clamps, h)) ∙ omega (arith, ints, clamps)

above_least : (k : Kind) (xs : List ℤ) → least k ≤ℤ greatest_of k xs
above_least k [] = omega (arith, ints)
above_least k (x ∷ xs) = let h = above_least k xs in omega (arith, ints, clamps, h)

pub combined_is : (op : MergeOp) (k : Kind) (xs : List ℤ) → combined_all op k (start_of op k) xs ≡ total_of op k xs
combined_is merges.Add k xs = summed k xs
combined_is merges.Mul k xs = refl
combined_is merges.Min k xs = least_from k (greatest k) xs (omega (arith, ints)) ∙ (let h = below_greatest k xs in omega (arith, ints, clamps, h))
combined_is merges.Max k xs = greatest_from k (least k) xs (omega (arith, ints)) ∙ (let h = above_least k xs in omega (arith, ints, clamps, h))

-- numbers that are wrapped before they are added change nothing
pub sum_of_wrapped : {A : Type 0} (k : Kind) (f : A → ℤ) (xs : List A) → wrapped_sum k (map (λ x. wrapped k (f x)) xs) ≡ wrapped_sum k (map f xs)
sum_of_wrapped k f [] = refl
sum_of_wrapped k f (x ∷ xs) =
    wrapped-add_left k (f x) (sum (map (λ y. wrapped k (f y)) xs))
    ∙ sym (wrapped-add_right k (f x) (sum (map (λ y. wrapped k (f y)) xs)))
    ∙ ap (λ s. wrapped k (f x +ℤ s)) (sum_of_wrapped k f xs) ∙ wrapped-add_right k (f x) (sum (map f xs))

-- from a wrapped number on
pub sum_from_wrapped : (k : Kind) (x : ℤ) (xs : List ℤ) → combined_all merges.Add k (wrapped k x) (map (wrapped k) xs) ≡ wrapped_sum k (x ∷ xs)
sum_from_wrapped k x xs =
    summed_from k x (map (wrapped k) xs) ∙ sym (wrapped-add_right k x (sum (map (wrapped k) xs)))
    ∙ ap (λ s. wrapped k (x +ℤ s)) (sum_of_wrapped k (λ y. y) xs ∙ ap (wrapped_sum k) (map-id xs))
    ∙ wrapped-add_right k x (sum xs)

pub wrapped_one : wrapped kinds.I64 (pos 1) ≡ pos 1
wrapped_one = wrapped-in_range kinds.I64 (pos 1) (record { low = omega (arith, ints); high = omega (arith, ints) })
