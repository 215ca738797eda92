-- Elements by their places.
use Rattle.std.proofs.Common.{◌≡◌, ℕ, zero, suc, ◌+◌, ◌<◌, ◌≤◌, ℤ, pos, negsuc, List, [], ◌∷◌, ◌++◌, drop, length, slice_index_or, slice_get, Option, Some, None, append_assoc, append-nil, ap, sym, refl, subst, ◌∙◌, arith}
use Rattle.std.proofs.lemmas.Option.{slice_get_past}
use Rattle.weld_data.specs.declared.kind.Kind.{Kind}
use Rattle.weld_data.specs.declared.kind.Kind.TheVariants as kinds
use Rattle.weld_data.specs.Value.{Value, number, list, struct, dict, values, values-list_of_values}
use Rattle.weld_tree.specs.TypeTree.{scalar}
use Rattle.weld_tree.specs.HasValue.{HasValue, AllAre}
use Rattle.weld_builders.specs.Outcome.{Outcome, done, fault, and_then, map_out, or_fault}
use Rattle.weld_builders.specs.Part.{as_number}
use Rattle.weld_builders.specs.Range.{AllInRange}
use Rattle.weld_meaning.specs.Evaluation.{elements_of, element_at, part_of, sliced}
use Rattle.weld_pieces.specs.Answer.{IsOutside}
use Rattle.weld_eager.proofs.Words.{bits, bits_are, all_in_range_at}
use Rattle.weld_calls.specs.CallTypes.{place_type}
use Rattle.weld_eval.specs.Fits.{IsList}
use Rattle.weld_calls.specs.Lists.{items, number_in, vector, each}
use Rattle.weld_calls.proofs.Outcomes.{map_out-map_out, map_out-same}
use Rattle.weld_calls.proofs.Arguments.{number_is}
use Rattle.weld_data.specs.declared.value.Val.{Val}
use Rattle.weld_data.specs.declared.value.Column.{Column}
use Rattle.weld_data.specs.View.{view_val, view_column}
use Rattle.weld_eager.specs.Reading.{IsPlaceAmong, IsFaultOr, AreKept, IsKeptVector}
use Rattle.weld_eager.proofs.Combining.{left_from}

list_items : (v : Value) → IsList v → elements_of v ≡ done (items v)
list_items (number k x) h = absurd h
list_items (list vs) h = refl
list_items (struct vs) h = absurd h
list_items (dict es) h = absurd h

pub part_is : (v i n : Value) → IsList v → HasValue place_type i → HasValue place_type n → sliced v i n ≡ map_out vector (part_of (items v) (number_in i) (number_in n))
part_is v i n h g f =
    λ j. and_then (list_items v h j) (λ vs. and_then (as_number (number_is kinds.I64 i g j)) (λ x. and_then (as_number (number_is kinds.I64 n f j)) (λ y. map_out (λ ws. list (values ws)) (part_of vs x y))))

-- ---- one place after another

outside_faults : (vs : List Value) (x : ℤ) → IsOutside x (length vs) → element_at vs x ≡ fault
outside_faults vs (pos i) h = ap or_fault (slice_get_past vs i h)
outside_faults vs (negsuc i) h = refl

-- so far these are taken, and what is left is taken behind them
abbrev pub TakenSoFar : List Value → List ℤ → ℕ → List Value → Type 0
TakenSoFar vs xs i ts = each (element_at vs) xs ≡ map_out (λ rest. ts ++ rest) (each (element_at vs) (drop i xs))

pub taken_more : (vs : List Value) (xs : List ℤ) (i place count : ℕ) (ts new : List Value) (v : Value) → AllInRange kinds.I64 xs → i < length xs → IsPlaceAmong (bits (slice_index_or xs i (pos 0))) place count
    → slice_get vs place ≡ Some v → new ≡ ts ++ v ∷ [] → TakenSoFar vs xs i ts → TakenSoFar vs xs (i + 1) new
taken_more vs xs i place count ts new v f h p e is so =
    let x = slice_index_or xs i (pos 0) in
    let at : element_at vs x ≡ done v = ap (element_at vs) (sym (bits_are kinds.I64 x (all_in_range_at kinds.I64 xs i (pos 0) f h)) ∙ p.0) ∙ ap or_fault e in
    so ∙ (λ j. map_out (λ rest. ts ++ rest) (each (element_at vs) (left_from xs i h j)))
    ∙ ap (λ o. map_out (λ rest. ts ++ rest) (and_then o (λ w. map_out (λ ws. w ∷ ws) (each (element_at vs) (drop (i + 1) xs))))) at
    ∙ map_out-map_out (λ r. v ∷ r) (λ rest. ts ++ rest) (each (element_at vs) (drop (i + 1) xs))
    ∙ map_out-same (each (element_at vs) (drop (i + 1) xs)) _ _ (λ rest. sym (append_assoc ts (v ∷ []) rest) ∙ ap (λ l. l ++ rest) (sym is))

pub taken_stops : (vs : List Value) (xs : List ℤ) (i count : ℕ) (ts : List Value) → AllInRange kinds.I64 xs → i < length xs → count ≡ length vs → IsOutside (bits (slice_index_or xs i (pos 0))) count → TakenSoFar vs xs i ts → each (element_at vs) xs ≡ fault
taken_stops vs xs i count ts f h c o so =
    let x = slice_index_or xs i (pos 0) in
    let out : IsOutside x (length vs) = subst (λ y. IsOutside y (length vs)) (bits_are kinds.I64 x (all_in_range_at kinds.I64 xs i (pos 0) f h)) (subst (IsOutside (bits x)) c o) in
    so ∙ (λ j. map_out (λ rest. ts ++ rest) (each (element_at vs) (left_from xs i h j)))
    ∙ ap (λ e. map_out (λ rest. ts ++ rest) (and_then e (λ w. map_out (λ ws. w ∷ ws) (each (element_at vs) (drop (i + 1) xs))))) (outside_faults vs x out)

pub taken_all : (vs : List Value) (xs : List ℤ) (i : ℕ) (ts : List Value) → length xs ≤ i → TakenSoFar vs xs i ts → each (element_at vs) xs ≡ done ts
taken_all vs xs i ts h so = so ∙ (λ j. map_out (λ rest. ts ++ rest) (each (element_at vs) (past xs i h j))) ∙ ap done (append-nil ts)
  where
    past : (xs : List ℤ) (i : ℕ) → length xs ≤ i → drop i xs ≡ []
    past [] zero h = refl
    past [] (suc i) h = refl
    past (x ∷ xs) zero h = absurd (omega (arith, h))
    past (x ∷ xs) (suc i) h = past xs i (omega (arith, h))

-- ---- the answer

pub take_answers : (us is : List Value) (xs ys : List ℤ) (r : Option Column) (answer : Option Val) → is ≡ us → xs ≡ ys → IsFaultOr r view_column (each (element_at us) xs)
    → ((o : Outcome (List Value)) → IsFaultOr r view_column o → IsFaultOr answer view_val (map_out vector o)) → IsFaultOr answer view_val (map_out vector (each (element_at is) ys))
take_answers us is xs ys r answer u e h k =
    subst (λ ws. IsFaultOr answer view_val (map_out vector (each (element_at ws) ys))) (sym u)
    (subst (λ zs. IsFaultOr answer view_val (map_out vector (each (element_at us) zs))) e (k (each (element_at us) xs) h))

pub kept_is_list : (kind : Option Kind) (v : Value) → IsKeptVector kind v → IsList v
kept_is_list (Some k) (number m x) h = absurd h
kept_is_list (Some k) (list vs) h = tt
kept_is_list (Some k) (struct vs) h = absurd h
kept_is_list (Some k) (dict es) h = absurd h
kept_is_list None v h = h

kept_items : (kind : Option Kind) (v : Value) → IsKeptVector kind v → AreKept kind (items v)
kept_items (Some k) (number m x) h = absurd h
kept_items (Some k) (list vs) h = subst (AllAre (HasValue (scalar k))) (sym (values-list_of_values vs)) h
kept_items (Some k) (struct vs) h = absurd h
kept_items (Some k) (dict es) h = absurd h
kept_items None v h = tt

pub kept_column : (kind : Option Kind) (v : Value) (cs : List Value) → IsKeptVector kind v → items v ≡ cs → AreKept kind cs
kept_column kind v cs h e = subst (AreKept kind) e (kept_items kind v h)
