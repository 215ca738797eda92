-- A struct of numbers merged into totals of fields.
use Rattle.std.proofs.Common.{◌≡◌, ℕ, zero, suc, ◌+◌, ◌<◌, ◌≤◌, ℤ, List, [], ◌∷◌, ◌++◌, length, take, map, slice_index_or, slice_get, Some, ap, sym, subst, refl, ◌∙◌, arith}
use Rattle.std.proofs.lemmas.List.{take_more, take_all, map-append}
use Rattle.weld_data.specs.declared.kind.Kind.{Kind}
use Rattle.weld_data.specs.declared.num.Num.{Num}
use Rattle.weld_data.specs.declared.op.MergeOp.{MergeOp}
use Rattle.weld_data.specs.Operation.{combination}
use Rattle.weld_data.specs.Order.{IsNumber}
use Rattle.weld_data.specs.Value.{Value, number, list, struct, dict, no_values, and_value, values}
use Rattle.weld_builders.specs.Outcome.{done, and_then, map_out}
use Rattle.weld_builders.specs.Part.{Totals, totals_part, kinds_of, as_numbers, merge_totals, join_totals, merge_part}
use Rattle.weld_pieces.specs.Kept.{AreNumbersOf, IsStructOfNumbers}
use Rattle.weld_pieces.specs.Totals.{total_in, totals_in, number_in}
use Rattle.weld_built.specs.Fields.{AreSomeNumbers}

-- ---- what a struct of numbers is

numbers_out : (ts : Totals) → as_numbers (values (map number_in ts)) ≡ done (map (λ (t : Kind × ℤ). t.1) ts)
numbers_out [] = refl
numbers_out (t ∷ ts) = ap (map_out (λ xs. t.1 ∷ xs)) (numbers_out ts)

kinds_fit : (ks : List Kind) (ts : Totals) → AreNumbersOf ks (values (map number_in ts)) → ks ≡ kinds_of ts
kinds_fit [] [] h = refl
kinds_fit [] (t ∷ ts) h = absurd h
kinds_fit (k ∷ ks) [] h = absurd h
kinds_fit (k ∷ ks) (t ∷ ts) h = λ j. sym h.0.0 j ∷ kinds_fit ks ts h.1 j

merged_fields : (op : MergeOp) (xs ts : Totals) → kinds_of xs ≡ kinds_of ts → merge_totals op xs (map (λ (t : Kind × ℤ). t.1) ts) ≡ done (join_totals op xs ts)
merged_fields op [] [] e = refl
merged_fields op [] (t ∷ ts) e = cc
merged_fields op (x ∷ xs) [] e = cc
merged_fields op (x ∷ xs) (t ∷ ts) e =
    let k : x.0 ≡ t.0 = cc in let more : kinds_of xs ≡ kinds_of ts = cc in
    ap (map_out (λ rest. (x.0, combination op x.0 x.1 t.1) ∷ rest)) (merged_fields op xs ts more) ∙ ap (λ m. done ((m, combination op m x.1 t.1) ∷ join_totals op xs ts)) k

-- ---- the merge

pub kinds_are : (xs : Totals) (v : Value) (ns : List Num) → v ≡ struct (values (map number_in (totals_in ns))) → IsStructOfNumbers (kinds_of xs) v → kinds_of xs ≡ kinds_of (totals_in ns)
kinds_are xs v ns e h = kinds_fit (kinds_of xs) (totals_in ns) (subst (IsStructOfNumbers (kinds_of xs)) e h)

pub merge_is : (op : MergeOp) (xs : Totals) (v : Value) (ns : List Num) → v ≡ struct (values (map number_in (totals_in ns))) → IsStructOfNumbers (kinds_of xs) v → merge_part (totals_part op xs) v ≡ done (totals_part op (join_totals op xs (totals_in ns)))
merge_is op xs v ns e h =
    ap (merge_part (totals_part op xs)) e
    ∙ ap (λ o. and_then o (λ ys. map_out (totals_part op) (merge_totals op xs ys))) (numbers_out (totals_in ns))
    ∙ ap (map_out (totals_part op)) (merged_fields op xs (totals_in ns) (kinds_are xs v ns e h))

-- ---- the numbers of a struct

number_there : (ks : List Kind) (vs : List Value) (i : ℕ) (d : Value) → AreNumbersOf ks (values vs) → i < length vs → IsNumber (slice_index_or vs i d)
number_there ks [] i d h l = absurd (omega arith)
number_there [] (v ∷ vs) i d h l = absurd h
number_there (k ∷ ks) (number m x ∷ vs) zero d h l = tt
number_there (k ∷ ks) (list ws ∷ vs) zero d h l = absurd h.0
number_there (k ∷ ks) (struct ws ∷ vs) zero d h l = absurd h.0
number_there (k ∷ ks) (dict es ∷ vs) zero d h l = absurd h.0
number_there (k ∷ ks) (v ∷ vs) (suc i) d h l = number_there ks vs i d h.1 (omega arith)

there : (vs : List Value) (i : ℕ) (v : Value) → slice_get vs i ≡ Some v → (i < length vs) × (slice_index_or vs i v ≡ v)
there [] i v e = let none : ⊥ = cc in absurd none
there (w ∷ vs) zero v e = let same : w ≡ v = cc in (omega arith, same)
there (w ∷ vs) (suc i) v e = let h = there vs i v e in (omega (arith, h.0), h.1)

pub is_number_there : (vs : List Value) (i : ℕ) (v : Value) → AreSomeNumbers vs → slice_get vs i ≡ Some v → IsNumber v
is_number_there vs i v h e = let t = there vs i v e in subst IsNumber t.1 (number_there h.0 vs i v h.1 t.0)

pub number_taken : (vs : List Value) (i : ℕ) (v : Value) (n : Num) (out new : List Num) → slice_get vs i ≡ Some v → v ≡ number n.kind n.value → new ≡ out ++ n ∷ []
    → map number_in (totals_in out) ≡ take i vs → map number_in (totals_in new) ≡ take (i + 1) vs
number_taken vs i v n out new e is g so_far =
    let t = there vs i v e in
    ap (λ ns. map number_in (totals_in ns)) g ∙ ap (map number_in) (map-append total_in out (n ∷ [])) ∙ map-append number_in (totals_in out) (total_in n ∷ [])
    ∙ ap (λ ws. ws ++ number n.kind n.value ∷ []) so_far ∙ ap (λ w. take i vs ++ w ∷ []) (sym is ∙ sym t.1) ∙ sym (take_more vs i v t.0)

pub numbers_taken : (vs : List Value) (i : ℕ) (ns : List Num) → length vs ≤ i → map number_in (totals_in ns) ≡ take i vs → map number_in (totals_in ns) ≡ vs
numbers_taken vs i ns l e = e ∙ take_all i vs l

-- two numbers
pub first_is_number : (ks : List Kind) (a b : Value) → AreNumbersOf ks (and_value a (and_value b no_values)) → IsNumber a
first_is_number ks a b h = number_there ks (a ∷ b ∷ []) 0 a h (omega arith)

pub second_is_number : (ks : List Kind) (a b : Value) → AreNumbersOf ks (and_value a (and_value b no_values)) → IsNumber b
second_is_number ks a b h = number_there ks (a ∷ b ∷ []) 1 a h (omega arith)

pub two_are : (a b : Value) (x y : Num) → a ≡ number x.kind x.value → b ≡ number y.kind y.value → struct (and_value a (and_value b no_values)) ≡ struct (values (map number_in (totals_in (x ∷ y ∷ []))))
two_are a b x y e f = λ j. struct (and_value (e j) (and_value (f j) no_values))
