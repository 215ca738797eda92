-- Calls whose answer is one number, and the dot of each row.
use Rattle.std.proofs.Common.{◌≡◌, ℕ, ◌+◌, ℤ, pos, ◌*ℤ◌, Bool, true, false, cond, List, [], ◌∷◌, map, map-id, ap, sym, refl, ◌∙◌, arith}
use Rattle.std.proofs.lemmas.Int.{ints}
use Rattle.weld_data.specs.declared.kind.Kind.{Kind}
use Rattle.weld_data.specs.declared.kind.Kind.TheVariants as kinds
use Rattle.weld_data.specs.declared.op.BinOp.TheVariants as ops
use Rattle.weld_data.specs.declared.op.MergeOp.{MergeOp}
use Rattle.weld_data.specs.declared.op.MergeOp.TheVariants as merges
use Rattle.weld_data.specs.Wrapped.{wrapped}
use Rattle.weld_data.specs.Value.{Value, Values, no_values, and_value, number, list, struct, dict, list_of_values}
use Rattle.weld_tree.specs.TypeTree.{scalar, vec}
use Rattle.weld_tree.specs.HasValue.{HasValue, AllAre}
use Rattle.weld_builders.specs.Outcome.{Outcome, done, map_out}
use Rattle.weld_builders.specs.Part.{Part, merge_part}
use Rattle.weld_meaning.specs.Thing.{plain, building}
use Rattle.weld_meaning.specs.Evaluation.{Env, truth_value, whole_number, operated, selected, value_out, eval}
use Rattle.weld_calls.specs.CallTypes.{truth_type, place_type}
use Rattle.weld_calls.specs.CallPrograms.{reduced, combined, dotted, across, literal, mapped, use_of, merged as merged_tree, selected as selected_tree}
use Rattle.weld_calls.specs.Lists.{items, numbers, truths, number_vector, paired, each, sum, wrapped_sum, how_many, dot}
use Rattle.weld_calls.specs.CallMeaning.{rows_dot_meaning}
use Rattle.weld_calls.specs.Folds.{BodySteps}
use Rattle.weld_calls.proofs.Outcomes.{map_out-map_out, map_out-same, value_of_plain}
use Rattle.weld_calls.proofs.Eaches.{each_map}
use Rattle.weld_calls.proofs.Totals.{total_of, sum_of_wrapped}
use Rattle.weld_calls.proofs.Arguments.{items_are, numbers_are, truths_are}
use Rattle.weld_calls.proofs.Legs.{Stands, pair_row, one_leg, two_legs}
use Rattle.weld_calls.proofs.Shapes.{item_step, mapped_is, combined_rows}
use Rattle.weld_calls.proofs.MappedCalls.{one_argument, two_arguments, operated_is, numbers_mapped}

pub reduced_is : (op : MergeOp) (k : Kind) (v : Value) → HasValue (vec (scalar k)) v → eval (reduced op (scalar k)) (one_argument v) ≡ done (plain (number k (total_of op k (numbers v))))
reduced_is op k v h =
    combined_rows (0 ∷ []) op k 1 (use_of 3) (one_argument v) (done (numbers v)) (number k) (λ x. x)
    (one_leg (one_argument v) 0 (record { value = v; found = refl; elements = numbers_are k v h })) (λ q i x. refl)
    ∙ ap (λ xs. done (plain (number k (total_of op k xs)))) (map-id (numbers v))

-- ---- dots

-- the product of the fields, merged
abbrev dot_step : Kind → Part → ℤ × ℤ → Outcome Part
dot_step k q p = merge_part q (number k (wrapped k (p.0 *ℤ p.1)))

dotted_is : (k : Kind) (s t b : ℕ) (env : Env) (xs ys : List ℤ) → Stands env s (number k) xs → Stands env t (number k) ys → BodySteps b (b + 1) (b + 2) (merged_tree (use_of b) (across ops.Mul (b + 2))) env (pair_row (number k) (number k)) (dot_step k) → eval (dotted s t (scalar k) b) env ≡ map_out plain (map_out (number k) (dot k xs ys))
dotted_is k s t b env xs ys h g steps =
    combined_rows (s ∷ t ∷ []) merges.Add k b (across ops.Mul (b + 2)) env (paired xs ys) (pair_row (number k) (number k)) (λ (p : ℤ × ℤ). wrapped k (p.0 *ℤ p.1)) (two_legs env s t h g) steps
    ∙ ap (map_out plain) (map_out-same (paired xs ys) _ _ (λ ps. ap (number k) (sum_of_wrapped k (λ (p : ℤ × ℤ). p.0 *ℤ p.1) ps)) ∙ sym (map_out-map_out (λ ps. wrapped_sum k (map (λ (p : ℤ × ℤ). p.0 *ℤ p.1) ps)) (number k) (paired xs ys)))

product_item : (k : Kind) (x y : ℤ) → value_out (map_out plain (operated ops.Mul (number k x) (number k y))) ≡ done (number k (wrapped k (x *ℤ y)))
product_item k x y = value_of_plain (operated ops.Mul (number k x) (number k y)) ∙ operated_is ops.Mul k x y

pub dot_is : (k : Kind) (v w : Value) → HasValue (vec (scalar k)) v → HasValue (vec (scalar k)) w → eval (dotted 0 1 (scalar k) 2) (two_arguments v w) ≡ map_out plain (map_out (number k) (dot k (numbers v) (numbers w)))
dot_is k v w h g =
    dotted_is k 0 1 2 (two_arguments v w) (numbers v) (numbers w) (record { value = v; found = refl; elements = numbers_are k v h }) (record { value = w; found = refl; elements = numbers_are k w g })
    (λ q i p. item_step _ (done (number k (wrapped k (p.0 *ℤ p.1)))) q (product_item k p.0 p.1))

-- a row of a matrix
abbrev Vector : Kind → Type 0
Vector k = (v : Value) × HasValue (vec (scalar k)) v

abbrev the_value : (k : Kind) → Vector k → Value
the_value k v = v.0

record AreVectors (k : Kind) (vs : List Value) : Type 0 where
  rows : List (Vector k)
  same : vs ≡ map (the_value k) rows

vectors_of : (k : Kind) (vs : Values) → AllAre (HasValue (vec (scalar k))) vs → AreVectors k (list_of_values vs)
vectors_of k no_values h = record { rows = []; same = refl }
vectors_of k (and_value v vs) h = let r = vectors_of k vs h.1 in record { rows = (v, h.0) ∷ r.rows; same = ap (λ ws. v ∷ ws) r.same }

rows_are_vectors : (k : Kind) (m : Value) → HasValue (vec (vec (scalar k))) m → AreVectors k (items m)
rows_are_vectors k (number j x) h = absurd h
rows_are_vectors k (list vs) h = vectors_of k vs h
rows_are_vectors k (struct vs) h = absurd h
rows_are_vectors k (dict es) h = absurd h

pub rows_dot_is : (k : Kind) (m w : Value) → HasValue (vec (vec (scalar k))) m → HasValue (vec (scalar k)) w → eval (mapped (0 ∷ []) (scalar k) 2 (dotted 4 1 (scalar k) 5)) (two_arguments m w) ≡ map_out plain (rows_dot_meaning k m w)
rows_dot_is k m w h g =
    let r = rows_are_vectors k m h in
    mapped_is (0 ∷ []) (scalar k) 2 (dotted 4 1 (scalar k) 5) (two_arguments m w) (done r.rows) (the_value k) (λ v. map_out (number k) (dot k (numbers v.0) (numbers w)))
    (one_leg (two_arguments m w) 0 (record { value = m; found = refl; elements = items_are (vec (scalar k)) m h ∙ ap done r.same }))
    (λ q i v. item_step _ _ q (ap value_out (dotted_is k 4 1 5 ((4, plain v.0) ∷ (3, plain (whole_number i)) ∷ (2, building q) ∷ two_arguments m w) (numbers v.0) (numbers w) (record { value = v.0; found = refl; elements = numbers_are k v.0 v.1 }) (record { value = w; found = refl; elements = numbers_are k w g }) (λ p j y. item_step _ (done (number k (wrapped k (y.0 *ℤ y.1)))) p (product_item k y.0 y.1))) ∙ value_of_plain (map_out (number k) (dot k (numbers v.0) (numbers w)))))
    ∙ ap (map_out plain) (numbers_mapped k (λ (v : Vector k). dot k (numbers v.0) (numbers w)) (done r.rows) ∙ ap (map_out (number_vector k)) (sym (each_map (λ row. dot k (numbers row) (numbers w)) (the_value k) r.rows) ∙ ap (each (λ row. dot k (numbers row) (numbers w))) (sym r.same)))

-- ---- counts

counted_item : (b : Bool) → selected (truth_value b) (number kinds.I64 (pos 1)) (number kinds.I64 (pos 0)) ≡ done (number kinds.I64 (cond b (pos 1) (pos 0)))
counted_item true = refl
counted_item false = refl

ones : (bs : List Bool) → sum (map (λ (b : Bool). cond b (pos 1) (pos 0)) bs) ≡ pos (how_many (λ b. b) bs)
ones [] = refl
ones (true ∷ bs) = let h = ones bs in omega (arith, ints, h)
ones (false ∷ bs) = let h = ones bs in omega (arith, ints, h)

pub count_is : (m : Value) → HasValue (vec truth_type) m → eval (combined (0 ∷ []) place_type merges.Add 1 (selected_tree (use_of 3) (literal 1) (literal 0))) (one_argument m) ≡ done (plain (whole_number (how_many (λ b. b) (truths m))))
count_is m h =
    combined_rows (0 ∷ []) merges.Add kinds.I64 1 (selected_tree (use_of 3) (literal 1) (literal 0)) (one_argument m) (done (truths m)) truth_value (λ b. cond b (pos 1) (pos 0))
    (one_leg (one_argument m) 0 (record { value = m; found = refl; elements = truths_are m h }))
    (λ q i b. item_step _ (done (number kinds.I64 (cond b (pos 1) (pos 0)))) q (value_of_plain (selected (truth_value b) (number kinds.I64 (pos 1)) (number kinds.I64 (pos 0))) ∙ counted_item b))
    ∙ ap (λ x. done (plain (number kinds.I64 (wrapped kinds.I64 x)))) (ones (truths m))
