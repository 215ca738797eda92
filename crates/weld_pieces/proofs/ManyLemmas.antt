-- Many numbers merged one after another.
use Rattle.std.proofs.Common.{◌≡◌, ℕ, zero, suc, ◌+◌, ◌<◌, ◌≤◌, ℤ, pos, List, [], ◌∷◌, ◌++◌, length, map, take, drop, zip, slice_index_or, slice_set, slice_get, Bool, Option, Some, Result, ap, ap₂, sym, subst, refl, ◌∙◌, arith, add-one}
use Rattle.std.proofs.Math.Seq.{take-append_seam}
use Rattle.std.specs.Ordering.{eq_by_cmp, int_eq}
use Rattle.std.specs.HashMap.{HashMap}
use Rattle.weld_data.specs.declared.kind.Kind.{Kind}
use Rattle.weld_data.specs.declared.op.MergeOp.{MergeOp}
use Rattle.weld_data.specs.declared.stop.Stop.{Stop}
use Rattle.weld_data.specs.Value.{Value, number}
use Rattle.weld_data.specs.Kind.{IsNarrow, InRange}
use Rattle.weld_data.specs.Operation.{combination}
use Rattle.weld_builders.specs.Outcome.{Outcome, done, and_then, map_out, or_fault}
use Rattle.weld_builders.specs.Part.{merge_cell}
use Rattle.weld_builders.specs.Range.{AllInRange}
use Rattle.weld_builders.specs.ValueOrder.{value_cmp}
use Rattle.weld_pieces.specs.Keyed.{entry_with, entries_with, map_of, by_value, merged_from}
use Rattle.weld_pieces.specs.KeyMapView.{kind_of_keys}
use Rattle.weld_pieces.specs.KeyedView.{numbers_in}
use Rattle.weld_pieces.specs.declared.key_map.KeyMap.{KeyMap}
use Rattle.weld_pieces.specs.declared.key_map.KeyMap.TheVariants as maps
use Rattle.weld_pieces.specs.Many.{merged_cells, CellsAnswer}
use Rattle.weld_pieces.specs.Word.{word}
use Rattle.weld_pieces.proofs.CellLemmas.{bits, bits_are, all_in_range_at, rest_at, words_are}
use Rattle.weld_pieces.proofs.KeyedLemmas.{Hashing, some_kind}
use Rattle.weld_pieces.proofs.MapLemmas.{map_of-entry_with, numbers_same}

there : (ws : List ℤ) (i : ℕ) → i < length ws → slice_get ws i ≡ Some (slice_index_or ws i (pos 0))
there [] i l = absurd (omega arith)
there (w ∷ ws) zero l = refl
there (w ∷ ws) (suc i) l = there ws i (omega arith)

-- one cell, of a kind whose numbers lie within an i64
pub kept_merges : (op : MergeOp) (k : Kind) (ws : List ℤ) (index y r : ℤ) (i : ℕ) → index ≡ pos i → i < length ws → IsNarrow k → AllInRange k ws → InRange k r
    → r ≡ combination op k (bits (slice_index_or ws i (pos 0))) (bits y) → bits y ≡ y → merge_cell op k ws index y ≡ done (slice_set ws i (bits r))
kept_merges op k ws index y r i at l n h fits value same =
    let w = slice_index_or ws i (pos 0) in
    ap (λ j. merge_cell op k ws j y) at
    ∙ ap (λ o. map_out (λ x. slice_set ws i (combination op k x y)) (or_fault o)) (there ws i l)
    ∙ ap (λ x. done (slice_set ws i (combination op k x y))) (sym (bits_are k w n (all_in_range_at k ws i (pos 0) h l)))
    ∙ ap (λ x. done (slice_set ws i x)) (sym (value ∙ ap (combination op k (bits w)) same) ∙ sym (bits_are k r n fits))

-- ---- one after another

-- what is left is a merge of the next and of what is left then
at_next : (op : MergeOp) (k : Kind) (ys is ns : List ℤ) (i : ℕ) (a b : ℤ) → i < length is → i < length ns → a ≡ slice_index_or is i (pos 0) → b ≡ slice_index_or ns i (pos 0)
    → merged_cells op k ys (zip (drop i is) (drop i ns)) ≡ and_then (merge_cell op k ys a b) (λ zs. merged_cells op k zs (zip (drop (suc i) is) (drop (suc i) ns)))
at_next op k ys is ns i a b l m p q =
    ap₂ (λ us vs. merged_cells op k ys (zip us vs)) (rest_at is i l) (rest_at ns i m)
    ∙ ap₂ (λ x y. and_then (merge_cell op k ys x y) (λ zs. merged_cells op k zs (zip (drop (suc i) is) (drop (suc i) ns)))) (sym p) (sym q)

pub cells_next : (op : MergeOp) (k : Kind) (xs ys zs is ns : List ℤ) (i : ℕ) (a b : ℤ) → i < length is → i < length ns → merged_cells op k xs (zip is ns) ≡ merged_cells op k ys (zip (drop i is) (drop i ns))
    → a ≡ slice_index_or is i (pos 0) → b ≡ slice_index_or ns i (pos 0) → merge_cell op k ys a b ≡ done zs → merged_cells op k xs (zip is ns) ≡ merged_cells op k zs (zip (drop (i + 1) is) (drop (i + 1) ns))
cells_next op k xs ys zs is ns i a b l m so_far p q e =
    so_far
    ∙ at_next op k ys is ns i a b l m p q
    ∙ ap (λ (o : Outcome (List ℤ)). and_then o (λ us. merged_cells op k us (zip (drop (suc i) is) (drop (suc i) ns)))) e
    ∙ ap (λ j. merged_cells op k zs (zip (drop j is) (drop j ns))) (sym (add-one i))

none_left : {X : Type 0} (xs : List X) (i : ℕ) → length xs ≤ i → drop i xs ≡ []
none_left [] zero m = refl
none_left [] (suc i) m = refl
none_left (x ∷ xs) zero m = absurd (omega arith)
none_left (x ∷ xs) (suc i) m = none_left xs i (omega arith)

pub cells_end : (op : MergeOp) (k : Kind) (xs ys is ns : List ℤ) (i : ℕ) → length is ≤ i → merged_cells op k xs (zip is ns) ≡ merged_cells op k ys (zip (drop i is) (drop i ns)) → merged_cells op k xs (zip is ns) ≡ done ys
cells_end op k xs ys is ns i l so_far =
    so_far ∙ ap (λ us. merged_cells op k ys (zip us (drop i ns))) (none_left is i l)

-- ---- numbers at keys

key_next : {K : Type 0} (ks : List K) (i : ℕ) (k : K) → i < length ks → k ≡ slice_index_or ks i k → drop i ks ≡ k ∷ drop (suc i) ks
key_next [] i k l e = absurd (omega arith)
key_next (x ∷ ks) zero k l e = ap (λ y. y ∷ ks) (sym e)
key_next (x ∷ ks) (suc i) k l e = key_next ks i k (omega arith) e

pub keys_next : {K : Type 0} (eq : K → K → Bool) (f : Option ℤ → ℤ → ℤ) (start es ds : List (K × ℤ)) (ks : List K) (ns : List ℤ) (i : ℕ) (k : K) (x : ℤ) → i < length ks → i < length ns
    → entries_with eq f start (zip ks ns) ≡ entries_with eq f es (zip (drop i ks) (drop i ns)) → k ≡ slice_index_or ks i k → x ≡ slice_index_or ns i (pos 0) → ds ≡ entry_with eq f es k x
    → entries_with eq f start (zip ks ns) ≡ entries_with eq f ds (zip (drop (i + 1) ks) (drop (i + 1) ns))
keys_next eq f start es ds ks ns i k x l m so_far p q e =
    so_far
    ∙ ap₂ (λ us vs. entries_with eq f es (zip us vs)) (key_next ks i k l p) (rest_at ns i m)
    ∙ ap (λ y. entries_with eq f (entry_with eq f es k y) (zip (drop (suc i) ks) (drop (suc i) ns))) (sym q)
    ∙ ap (λ us. entries_with eq f us (zip (drop (suc i) ks) (drop (suc i) ns))) (sym e)
    ∙ ap (λ j. entries_with eq f ds (zip (drop j ks) (drop j ns))) (sym (add-one i))

pub keys_end : {K : Type 0} (eq : K → K → Bool) (f : Option ℤ → ℤ → ℤ) (start es : List (K × ℤ)) (ks : List K) (ns : List ℤ) (i : ℕ) → length ks ≡ length ns → length ns ≤ i
    → entries_with eq f start (zip ks ns) ≡ entries_with eq f es (zip (drop i ks) (drop i ns)) → es ≡ entries_with eq f start (zip ks ns)
keys_end eq f start es ks ns i same l so_far =
    sym (so_far ∙ ap (λ us. entries_with eq f es (zip us (drop i ns))) (none_left ks i (omega (arith, same))))

merged_entries : {K : Type 0} (key : K → Value) (eq : K → K → Bool) → ((a b : K) → eq a b ≡ eq_by_cmp value_cmp (key a) (key b)) → (f : Option ℤ → ℤ → ℤ) (es ds : List (K × ℤ))
    → map_of key (entries_with eq f es ds) ≡ merged_from f (map_of key es) (by_value key ds)
merged_entries key eq agree f es [] = refl
merged_entries key eq agree f es (d ∷ ds) =
    merged_entries key eq agree f (entry_with eq f es d.0 d.1) ds
    ∙ ap (λ m. merged_from f m (by_value key ds)) (map_of-entry_with key eq agree f es d.0 d.1)

pub many_done : (f : Option ℤ → ℤ → ℤ) (before : KeyMap ℤ) (k key_kind : Kind) (m : HashMap ℤ ℤ Hashing) (es ds : List (ℤ × ℤ)) → before ≡ maps.Numbers k m → kind_of_keys before ≡ Some key_kind → ds ≡ entries_with int_eq f m.entries es
    → map_of (number k) ds ≡ merged_from f (numbers_in before) (by_value (number key_kind) es)
many_done f before k key_kind m es ds is kept e =
    let kinds : k ≡ key_kind = some_kind k key_kind (sym (ap kind_of_keys is) ∙ kept) in
    ap (map_of (number k)) e
    ∙ merged_entries (number k) int_eq (numbers_same k) f m.entries es
    ∙ (λ i. merged_from f (numbers_in (sym is i)) (by_value (number (kinds i)) es))

-- ---- words, of a kind whose numbers lie within an i64

pub words_kept : (k : Kind) (ws xs : List ℤ) → IsNarrow k → xs ≡ ws → AllInRange k (map (word k) ws) → AllInRange k xs
words_kept k ws xs n e h = subst (AllInRange k) (words_are k ws n ∙ sym e) h

pub kept_words : (k : Kind) (ws xs : List ℤ) → IsNarrow k → ws ≡ xs → AllInRange k xs → AllInRange k (map (word k) ws)
kept_words k ws xs n e h = subst (AllInRange k) (sym (words_are k ws n ∙ e)) h

pub words_answer : {T : Type 0} (r : Result T Stop) (op : MergeOp) (k : Kind) (start new old ws : List ℤ) (es : List (ℤ × ℤ)) → IsNarrow k → start ≡ old → ws ≡ new
    → CellsAnswer r (merged_cells op k start es) new → CellsAnswer r (merged_cells op k (map (word k) old) es) (map (word k) ws)
words_answer r op k start new old ws es n p q h =
    subst (λ (xs : List ℤ). CellsAnswer r (merged_cells op k xs es) (map (word k) ws)) (p ∙ sym (words_are k old n))
    (subst (CellsAnswer r (merged_cells op k start es)) (sym (words_are k ws n ∙ q)) h)

pub all_taken : (n : ℕ) (xs ys : List ℤ) → n ≡ length xs → take n (xs ++ ys) ≡ xs
all_taken n xs ys e = ap (λ m. take m (xs ++ ys)) e ∙ take-append_seam xs ys
