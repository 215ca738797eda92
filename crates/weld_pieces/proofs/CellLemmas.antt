-- Cells: all in range, one changed, all combined.
use Rattle.std.proofs.Common.{◌≡◌, ℕ, zero, suc, ◌+◌, ◌<◌, ◌≤◌, ℤ, pos, negsuc, List, [], ◌∷◌, ◌++◌, length, take, map, drop, replicate, slice_index_or, slice_set, slice_get, Option, Some, None, ap, ap₂, sym, subst, refl, ◌∙◌, arith, to_z, of_z, w64, FitsSigned, add-one}
use Rattle.std.specs.Int.{w128}
use Rattle.std.proofs.lemmas.Int.{ints, to_z-of_z}
use Rattle.std.proofs.lemmas.List.{take_more, map-append, length-map}
use Rattle.weld_data.specs.Value.{number}
use Rattle.weld_data.specs.declared.kind.Kind.TheVariants as kinds
use Rattle.weld_data.specs.declared.kind.Kind.{Kind}
use Rattle.weld_data.specs.declared.op.MergeOp.{MergeOp}
use Rattle.weld_data.specs.Kind.{IsNarrow, InRange}
use Rattle.weld_data.proofs.Ranges.{FitsSigned-kind}
use Rattle.weld_data.specs.Operation.{combination}
use Rattle.weld_pieces.specs.Answer.{IsOutside}
use Rattle.weld_pieces.specs.Total.{combined_all}
use Rattle.weld_pieces.specs.Word.{word}
use Rattle.weld_builders.specs.Outcome.{done, fault, map_out, or_fault}
use Rattle.weld_builders.specs.Part.{merge_cell, join_cells, repeated}
use Rattle.weld_builders.specs.Range.{AllInRange}

pub replicate_is : (x : ℤ) (n : ℕ) → replicate n x ≡ repeated x n
replicate_is x zero = refl
replicate_is x (suc n) = ap (λ xs. x ∷ xs) (replicate_is x n)

pub all_in_range_replicate : (kind : Kind) (x : ℤ) (n : ℕ) → InRange kind x → AllInRange kind (replicate n x)
all_in_range_replicate kind x zero h = tt
all_in_range_replicate kind x (suc n) h = (h, all_in_range_replicate kind x n h)

-- a number as the code has it: its bits, read back
abbrev pub bits : ℤ → ℤ
bits x = to_z w64 (of_z w64 x)

pub bits_are : (kind : Kind) (x : ℤ) → IsNarrow kind → InRange kind x → bits x ≡ x
bits_are kind x n h = to_z-of_z w64 x (FitsSigned-kind kind x n h)

pub bits_in_range : (kind : Kind) (x : ℤ) → IsNarrow kind → InRange kind x → InRange kind (bits x)
bits_in_range kind x n h = subst (InRange kind) (sym (bits_are kind x n h)) h

-- the same at 128 bits, of any kind
abbrev pub wide_bits : ℤ → ℤ
wide_bits x = to_z w128 (of_z w128 x)

wide_fits : (kind : Kind) (x : ℤ) → InRange kind x → FitsSigned w128 x
wide_fits kinds.Bool x h = omega (arith, ints, h.low, h.high)
wide_fits kinds.I8 x h = omega (arith, ints, h.low, h.high)
wide_fits kinds.I16 x h = omega (arith, ints, h.low, h.high)
wide_fits kinds.I32 x h = omega (arith, ints, h.low, h.high)
wide_fits kinds.I64 x h = omega (arith, ints, h.low, h.high)
wide_fits kinds.U8 x h = omega (arith, ints, h.low, h.high)
wide_fits kinds.U16 x h = omega (arith, ints, h.low, h.high)
wide_fits kinds.U32 x h = omega (arith, ints, h.low, h.high)
wide_fits kinds.U64 x h = omega (arith, ints, h.low, h.high)

pub wide_bits_are : (kind : Kind) (x : ℤ) → InRange kind x → wide_bits x ≡ x
wide_bits_are kind x h = to_z-of_z w128 x (wide_fits kind x h)

pub wide_bits_in_range : (kind : Kind) (x : ℤ) → InRange kind x → InRange kind (wide_bits x)
wide_bits_in_range kind x h = subst (InRange kind) (sym (wide_bits_are kind x h)) h

-- ---- words

-- a word that stands for a number of the kind has 64 bits
pub word_fits : (kind : Kind) (w : ℤ) → InRange kind (word kind w) → FitsSigned w64 w
word_fits kinds.Bool w h = omega (arith, ints, h.low, h.high)
word_fits kinds.I8 w h = omega (arith, ints, h.low, h.high)
word_fits kinds.I16 w h = omega (arith, ints, h.low, h.high)
word_fits kinds.I32 w h = omega (arith, ints, h.low, h.high)
word_fits kinds.I64 w h = omega (arith, ints, h.low, h.high)
word_fits kinds.U8 w h = omega (arith, ints, h.low, h.high)
word_fits kinds.U16 w h = omega (arith, ints, h.low, h.high)
word_fits kinds.U32 w h = omega (arith, ints, h.low, h.high)
word_fits kinds.U64 w h = omega (arith, ints, h.low, h.high)

pub word_bits_are : (kind : Kind) (w : ℤ) → InRange kind (word kind w) → bits w ≡ w
word_bits_are kind w h = to_z-of_z w64 w (word_fits kind w h)

pub word_bits_in_range : (kind : Kind) (w : ℤ) → InRange kind (word kind w) → InRange kind (word kind (bits w))
word_bits_in_range kind w h = subst (λ v. InRange kind (word kind v)) (sym (word_bits_are kind w h)) h

-- of a kind whose numbers lie within an i64 a word is its number
pub word_is : (kind : Kind) (x : ℤ) → IsNarrow kind → word kind x ≡ x
word_is kinds.Bool x n = refl
word_is kinds.I8 x n = refl
word_is kinds.I16 x n = refl
word_is kinds.I32 x n = refl
word_is kinds.I64 x n = refl
word_is kinds.U8 x n = refl
word_is kinds.U16 x n = refl
word_is kinds.U32 x n = refl
word_is kinds.U64 x n = absurd n

pub words_are : (kind : Kind) (xs : List ℤ) → IsNarrow kind → map (word kind) xs ≡ xs
words_are kind [] n = refl
words_are kind (x ∷ xs) n = ap₂ (λ y ys. y ∷ ys) (word_is kind x n) (words_are kind xs n)

-- at 64 bits the words are the numbers
pub words_of_i64 : (kind : Kind) (ws vs : List ℤ) → kind ≡ kinds.I64 → vs ≡ ws → map (number kinds.I64) vs ≡ map (number kind) (map (word kind) ws)
words_of_i64 kind ws vs is e =
    ap (map (number kinds.I64)) (e ∙ sym (words_are kinds.I64 ws tt)) ∙ ap (λ k. map (number k) (map (word k) ws)) (sym is)

pub map-replicate : (f : ℤ → ℤ) (n : ℕ) (x : ℤ) → map f (replicate n x) ≡ replicate n (f x)
map-replicate f zero x = refl
map-replicate f (suc n) x = ap (λ ys. f x ∷ ys) (map-replicate f n x)

map-slice_set : (f : ℤ → ℤ) (xs : List ℤ) (i : ℕ) (x : ℤ) → map f (slice_set xs i x) ≡ slice_set (map f xs) i (f x)
map-slice_set f [] i x = refl
map-slice_set f (y ∷ ys) zero x = refl
map-slice_set f (y ∷ ys) (suc i) x = ap (λ zs. f y ∷ zs) (map-slice_set f ys i x)

map-slice_index : (f : ℤ → ℤ) (xs : List ℤ) (i : ℕ) (d : ℤ) → slice_index_or (map f xs) i (f d) ≡ f (slice_index_or xs i d)
map-slice_index f [] i d = refl
map-slice_index f (x ∷ xs) zero d = refl
map-slice_index f (x ∷ xs) (suc i) d = map-slice_index f xs i d

pub all_in_range_at : (kind : Kind) (xs : List ℤ) (i : ℕ) (d : ℤ) → AllInRange kind xs → i < length xs → InRange kind (slice_index_or xs i d)
all_in_range_at kind [] i d h l = absurd (omega arith)
all_in_range_at kind (x ∷ xs) zero d h l = h.0
all_in_range_at kind (x ∷ xs) (suc i) d h l = all_in_range_at kind xs i d h.1 (omega arith)

pub all_in_range_set : (kind : Kind) (xs : List ℤ) (i : ℕ) (y : ℤ) → AllInRange kind xs → InRange kind y → AllInRange kind (slice_set xs i y)
all_in_range_set kind [] i y h l = tt
all_in_range_set kind (x ∷ xs) zero y h l = (l, h.1)
all_in_range_set kind (x ∷ xs) (suc i) y h l = (h.0, all_in_range_set kind xs i y h.1 l)

-- the first cells combined, the others as they were
abbrev pub mixed : MergeOp → Kind → List ℤ → List ℤ → ℕ → List ℤ
mixed op k xs ys i = join_cells op k (take i xs) (take i ys) ++ drop i xs

pub mixed_step : (op : MergeOp) (k : Kind) (xs ys : List ℤ) (i : ℕ) (d : ℤ) → i < length xs → length xs ≡ length ys
    → slice_set (mixed op k xs ys i) i (combination op k (slice_index_or (mixed op k xs ys i) i d) (slice_index_or ys i d)) ≡ mixed op k xs ys (suc i)
mixed_step op k [] ys i d l e = absurd (omega arith)
mixed_step op k (x ∷ xs) [] i d l e = absurd (omega arith)
mixed_step op k (x ∷ xs) (y ∷ ys) zero d l e = refl
mixed_step op k (x ∷ xs) (y ∷ ys) (suc i) d l e =
    let m : i < length xs = omega arith in let f : length xs ≡ length ys = omega arith in
    ap (λ zs. combination op k x y ∷ zs) (mixed_step op k xs ys i d m f)

pub mixed_all : (op : MergeOp) (k : Kind) (xs ys : List ℤ) → length xs ≡ length ys → mixed op k xs ys (length xs) ≡ join_cells op k xs ys
mixed_all op k [] [] e = refl
mixed_all op k [] (y ∷ ys) e = absurd (omega arith)
mixed_all op k (x ∷ xs) [] e = absurd (omega arith)
mixed_all op k (x ∷ xs) (y ∷ ys) e = let f : length xs ≡ length ys = omega arith in ap (λ zs. combination op k x y ∷ zs) (mixed_all op k xs ys f)

pub cell_in_range : (kind : Kind) (xs : List ℤ) (i : ℕ) → IsNarrow kind → AllInRange kind xs → i < length xs → InRange kind (bits (slice_index_or xs i (pos 0)))
cell_in_range kind xs i n h l = bits_in_range kind _ n (all_in_range_at kind xs i (pos 0) h l)

word_at : (kind : Kind) (ws : List ℤ) (i : ℕ) (d : ℤ) → AllInRange kind (map (word kind) ws) → i < length ws → InRange kind (word kind (slice_index_or ws i d))
word_at kind [] i d h l = absurd (omega arith)
word_at kind (w ∷ ws) zero d h l = h.0
word_at kind (w ∷ ws) (suc i) d h l = word_at kind ws i d h.1 (omega arith)

pub word_in_range : (kind : Kind) (ws : List ℤ) (i : ℕ) → AllInRange kind (map (word kind) ws) → i < length ws → InRange kind (word kind (bits (slice_index_or ws i (pos 0))))
word_in_range kind ws i h l = word_bits_in_range kind _ (word_at kind ws i (pos 0) h l)

pub words_in_range_set : (kind : Kind) (ws : List ℤ) (i : ℕ) (r : ℤ) → AllInRange kind (map (word kind) ws) → InRange kind (word kind r) → AllInRange kind (map (word kind) (slice_set ws i (bits r)))
words_in_range_set kind ws i r h f =
    subst (AllInRange kind) (sym (map-slice_set (word kind) ws i (bits r)))
    (all_in_range_set kind (map (word kind) ws) i (word kind (bits r)) h (word_bits_in_range kind r f))

pub cells_step : (op : MergeOp) (k : Kind) (old later cells : List ℤ) (i : ℕ) (r : ℤ) → i < length old → i < length cells → length old ≡ length later
    → map (word k) cells ≡ mixed op k (map (word k) old) (map (word k) later) i → AllInRange k (map (word k) cells) → AllInRange k (map (word k) later)
    → word k r ≡ combination op k (word k (bits (slice_index_or cells i (pos 0)))) (word k (bits (slice_index_or later i (pos 0)))) → InRange k (word k r)
    → (map (word k) (slice_set cells i (bits r)) ≡ mixed op k (map (word k) old) (map (word k) later) (i + 1)) × AllInRange k (map (word k) (slice_set cells i (bits r)))
cells_step op k old later cells i r l m e is h g value fits =
    let x = slice_index_or cells i (pos 0) in
    let y = slice_index_or later i (pos 0) in
    let d = word k (pos 0) in
    let xs = map (word k) old in
    let ys = map (word k) later in
    let n : i < length later = omega arith in
    let p : word k (bits x) ≡ slice_index_or (map (word k) cells) i d =
    ap (word k) (word_bits_are k x (word_at k cells i (pos 0) h m)) ∙ sym (map-slice_index (word k) cells i (pos 0)) in
    let q : word k (bits y) ≡ slice_index_or ys i d =
    ap (word k) (word_bits_are k y (word_at k later i (pos 0) g n)) ∙ sym (map-slice_index (word k) later i (pos 0)) in
    let v : word k (bits r) ≡ combination op k (slice_index_or (map (word k) cells) i d) (slice_index_or ys i d) =
    ap (word k) (word_bits_are k r fits) ∙ value ∙ ap₂ (combination op k) p q in
    let within : i < length xs = omega (arith, length-map old (word k)) in
    let alike : length xs ≡ length ys = omega (arith, length-map old (word k), length-map later (word k)) in (
      rw add-one (map-slice_set (word k) cells i (bits r) ∙ ap (slice_set (map (word k) cells) i) v
          ∙ ap (λ zs. slice_set zs i (combination op k (slice_index_or zs i d) (slice_index_or ys i d))) is
          ∙ mixed_step op k xs ys i d within alike),
      words_in_range_set k cells i r h fits,
    )

-- ---- one cell

pub outside_faults : (op : MergeOp) (k : Kind) (xs : List ℤ) (index y : ℤ) → IsOutside index (length xs) → merge_cell op k xs index y ≡ fault
outside_faults op k xs (negsuc i) y o = refl
outside_faults op k xs (pos i) y o = none xs i o
  where
    none : (xs : List ℤ) (i : ℕ) → length xs ≤ i → merge_cell op k xs (pos i) y ≡ fault
    none [] i l = refl
    none (x ∷ xs) zero l = absurd (omega arith)
    none (x ∷ xs) (suc i) l = later (slice_get xs i) (nothing xs i (omega arith))
      where
        nothing : (xs : List ℤ) (i : ℕ) → length xs ≤ i → slice_get xs i ≡ None
        nothing [] i l = refl
        nothing (x ∷ xs) zero l = absurd (omega arith)
        nothing (x ∷ xs) (suc i) l = nothing xs i (omega arith)

        later : (o : Option ℤ) → o ≡ None → map_out (λ w. slice_set (x ∷ xs) (suc i) (combination op k w y)) (or_fault o) ≡ fault
        later o e = ap (λ p. map_out (λ w. slice_set (x ∷ xs) (suc i) (combination op k w y)) (or_fault p)) e

cell_there : (xs : List ℤ) (i : ℕ) (x : ℤ) → i < length xs → x ≡ slice_index_or xs i x → slice_get xs i ≡ Some x
cell_there [] i x l e = absurd (omega arith)
cell_there (y ∷ xs) zero x l e = ap Some (sym e)
cell_there (y ∷ xs) (suc i) x l e = cell_there xs i x (omega arith) e

pub cell_merges : (op : MergeOp) (k : Kind) (ws : List ℤ) (index w v y r : ℤ) (i : ℕ) → index ≡ pos i → i < length ws → w ≡ slice_index_or ws i w → AllInRange k (map (word k) ws) → word k v ≡ y → InRange k y
    → word k r ≡ combination op k (word k (bits w)) (word k (bits v)) → InRange k (word k r) → merge_cell op k (map (word k) ws) index y ≡ done (map (word k) (slice_set ws i (bits r)))
cell_merges op k ws index w v y r i at l is h same g value fits =
    let fw : InRange k (word k w) = subst (λ x. InRange k (word k x)) (sym is) (word_at k ws i w h l) in
    let fv : InRange k (word k v) = subst (InRange k) (sym same) g in
    let z : word k (bits r) ≡ combination op k (word k w) y =
    ap (word k) (word_bits_are k r fits) ∙ value ∙ ap₂ (combination op k) (ap (word k) (word_bits_are k w fw)) (ap (word k) (word_bits_are k v fv) ∙ same) in
    let within : i < length (map (word k) ws) = omega (arith, length-map ws (word k)) in
    let there : word k w ≡ slice_index_or (map (word k) ws) i (word k w) = ap (word k) is ∙ sym (map-slice_index (word k) ws i w) in
    ap (λ j. merge_cell op k (map (word k) ws) j y) at
    ∙ ap (λ o. map_out (λ x. slice_set (map (word k) ws) i (combination op k x y)) (or_fault o)) (cell_there (map (word k) ws) i (word k w) within there)
    ∙ ap (λ x. done (slice_set (map (word k) ws) i x)) (sym z)
    ∙ ap done (sym (map-slice_set (word k) ws i (bits r)))

pub old_in_range : (k : Kind) (ws : List ℤ) (w : ℤ) (i : ℕ) → i < length ws → w ≡ slice_index_or ws i w → AllInRange k (map (word k) ws) → InRange k (word k (bits w))
old_in_range k ws w i l is h = word_bits_in_range k w (subst (λ x. InRange k (word k x)) (sym is) (word_at k ws i w h l))

-- cells one by one, as a list of numbers
pub more_numbers : (k : Kind) (ws : List ℤ) (i : ℕ) → i < length ws
    → map (number k) (map (word k) (take (i + 1) ws)) ≡ map (number k) (map (word k) (take i ws)) ++ number k (word k (slice_index_or ws i (pos 0))) ∷ []
more_numbers k ws i l = rw (take_more ws i (pos 0) l, map-append, map-append) refl

-- what is left of a list, from a place on
pub rest_at : (xs : List ℤ) (i : ℕ) → i < length xs → drop i xs ≡ slice_index_or xs i (pos 0) ∷ drop (suc i) xs
rest_at [] i l = absurd (omega arith)
rest_at (x ∷ xs) zero l = refl
rest_at (x ∷ xs) (suc i) l = rest_at xs i (omega arith)

-- one more number is combined
pub total_step : (op : MergeOp) (k : Kind) (x t r : ℤ) (xs : List ℤ) (i : ℕ) → IsNarrow k → i < length xs → AllInRange k xs → InRange k r → combined_all op k x xs ≡ combined_all op k t (drop i xs)
    → r ≡ combination op k t (bits (slice_index_or xs i (pos 0))) → combined_all op k x xs ≡ combined_all op k (bits r) (drop (i + 1) xs)
total_step op k x t r xs i n l h f e v =
    let y = slice_index_or xs i (pos 0) in
    e ∙ ap (combined_all op k t) (rest_at xs i l)
    ∙ ap (λ z. combined_all op k (combination op k t z) (drop (suc i) xs)) (sym (bits_are k y n (all_in_range_at k xs i (pos 0) h l)))
    ∙ ap (λ z. combined_all op k z (drop (suc i) xs)) (sym v ∙ sym (bits_are k r n f))
    ∙ ap (λ j. combined_all op k (bits r) (drop j xs)) (sym (add-one i))

-- all are combined
pub total_end : (op : MergeOp) (k : Kind) (x t : ℤ) (xs : List ℤ) (i : ℕ) → length xs ≤ i → combined_all op k x xs ≡ combined_all op k t (drop i xs) → t ≡ combined_all op k x xs
total_end op k x t xs i l e = sym (e ∙ ap (combined_all op k t) (none xs i l))
  where
    none : (ys : List ℤ) (j : ℕ) → length ys ≤ j → drop j ys ≡ []
    none [] zero m = refl
    none [] (suc j) m = refl
    none (y ∷ ys) zero m = absurd (omega arith)
    none (y ∷ ys) (suc j) m = none ys j (omega arith)
