-- The types that fit a call are those of its row in the table.
use Rattle.std.proofs.Common.{◌≡◌, ℕ, true, List, [], ◌∷◌, length, Option, Some, None, refl, ap, subst, ◌∙◌}
use Rattle.weld_data.specs.declared.kind.Kind.TheVariants as kinds
use Rattle.weld_tree.specs.TypeTree.{TypeTree, scalar, vec, struct}
use Rattle.weld_calls.specs.declared.call.Call.{Call}
use Rattle.weld_calls.specs.declared.call.Call.TheVariants.{Add, Sub, Mul, Scale, Where, Dot, Sum, Min, Max, Slice, Take, Histogram, RowsDot, Column, Filter, Compare, Arith, Count, GroupSum, GroupList, GroupCount}
use Rattle.weld_calls.specs.declared.pattern.Pattern.TheVariants.{Number, Numbers, Rows, Place, Places, Truths, Items, Keys, Columns}
use Rattle.weld_calls.specs.CallTypes.{misfit_from, no_column, nth_type, unless_some, is_wanted, k_after, is_integer, is_number, is_vec, is_key, FitsCall}
use Rattle.weld_calls.specs.CallRows.{OneVector, TwoVectors, VectorAndNumber, IsRow}
use Rattle.weld_calls.proofs.Wanted.{row_none, column_none, some_none, vec_is, key_is, table_is, this_number, these_numbers, numbers_are, integer_kind, one_fits, two_fit, three_fit, one_vector, next_number, next_vector}

-- ---- the rows, by their patterns

numbers_row : (ts : List TypeTree) → length ts ≡ 1 → misfit_from None 1 (Numbers ∷ []) ts ≡ None → OneVector ts
numbers_row ts c h =
    let f = one_fits Numbers ts c h in
    let n = one_vector f.0 f.1 in
    (n.0, n.1, f.2 ∙ ap (λ t. t ∷ []) n.2)

two_row : (ts : List TypeTree) → length ts ≡ 2 → misfit_from None 1 (Numbers ∷ Numbers ∷ []) ts ≡ None → TwoVectors ts
two_row ts c h =
    let f = two_fit Numbers Numbers ts c h in
    let n = one_vector f.0 f.2 in
    let m = next_vector f.0 f.1 n.0 n.2 f.3 in
    (n.0, n.1, f.4 ∙ (λ i. n.2 i ∷ m i ∷ []))

number_row : (ts : List TypeTree) → length ts ≡ 2 → misfit_from None 1 (Numbers ∷ Number ∷ []) ts ≡ None → VectorAndNumber ts
number_row ts c h =
    let f = two_fit Numbers Number ts c h in
    let n = one_vector f.0 f.2 in
    let m = next_number f.0 f.1 n.0 n.2 f.3 in
    (n.0, n.1, f.4 ∙ (λ i. n.2 i ∷ m i ∷ []))

where_row : (ts : List TypeTree) → length ts ≡ 3 → misfit_from None 1 (Truths ∷ Numbers ∷ Numbers ∷ []) ts ≡ None → IsRow Where ts
where_row ts c h =
    let f = three_fit Truths Numbers Numbers ts c h in
    let m = these_numbers kinds.Bool f.0 f.3 in
    let n = one_vector f.1 f.4 in
    let l = next_vector f.1 f.2 n.0 n.2 f.5 in
    (n.0, n.1, f.6 ∙ (λ i. m i ∷ n.2 i ∷ l i ∷ []))

slice_row : (ts : List TypeTree) → length ts ≡ 3 → misfit_from None 1 (Items ∷ Place ∷ Place ∷ []) ts ≡ None → IsRow Slice ts
slice_row ts c h =
    let f = three_fit Items Place Place ts c h in
    let v = vec_is (λ u. true) f.0 f.3 in
    let a = this_number kinds.I64 f.1 f.4 in
    let b = this_number kinds.I64 f.2 f.5 in
    (v.0, f.6 ∙ (λ i. v.2 i ∷ a i ∷ b i ∷ []))

take_row : (ts : List TypeTree) → length ts ≡ 2 → misfit_from None 1 (Items ∷ Places ∷ []) ts ≡ None → IsRow Take ts
take_row ts c h =
    let f = two_fit Items Places ts c h in
    let v = vec_is (λ u. true) f.0 f.2 in
    let a = these_numbers kinds.I64 f.1 f.3 in
    (v.0, f.4 ∙ (λ i. v.2 i ∷ a i ∷ []))

histogram_row : (ts : List TypeTree) → length ts ≡ 2 → misfit_from None 1 (Places ∷ Places ∷ []) ts ≡ None → IsRow Histogram ts
histogram_row ts c h =
    let f = two_fit Places Places ts c h in
    let a = these_numbers kinds.I64 f.0 f.2 in
    let b = these_numbers kinds.I64 f.1 f.3 in
    f.4 ∙ (λ i. a i ∷ b i ∷ [])

rows_row : (ts : List TypeTree) → length ts ≡ 2 → misfit_from None 1 (Rows ∷ Numbers ∷ []) ts ≡ None → IsRow RowsDot ts
rows_row ts c h =
    let f = two_fit Rows Numbers ts c h in
    let v = vec_is (is_vec (is_number is_integer)) f.0 f.2 in
    let n = numbers_are is_integer v.0 v.1 in
    let e : f.0 ≡ vec (vec (scalar n.0)) = v.2 ∙ ap vec n.2 in
    let m = these_numbers n.0 f.1 (subst (λ x. is_wanted (k_after None Rows x) Numbers f.1 ≡ true) e f.3) in
    (n.0, integer_kind n.0 n.1, f.4 ∙ (λ i. e i ∷ m i ∷ []))

filter_row : (ts : List TypeTree) → length ts ≡ 2 → misfit_from None 1 (Items ∷ Truths ∷ []) ts ≡ None → IsRow Filter ts
filter_row ts c h =
    let f = two_fit Items Truths ts c h in
    let v = vec_is (λ u. true) f.0 f.2 in
    let a = these_numbers kinds.Bool f.1 f.3 in
    (v.0, f.4 ∙ (λ i. v.2 i ∷ a i ∷ []))

count_row : (ts : List TypeTree) → length ts ≡ 1 → misfit_from None 1 (Truths ∷ []) ts ≡ None → IsRow Count ts
count_row ts c h =
    let f = one_fits Truths ts c h in
    let a = these_numbers kinds.Bool f.0 f.1 in
    f.2 ∙ ap (λ t. t ∷ []) a

group_sum_row : (ts : List TypeTree) → length ts ≡ 2 → misfit_from None 1 (Keys ∷ Numbers ∷ []) ts ≡ None → IsRow GroupSum ts
group_sum_row ts c h =
    let f = two_fit Keys Numbers ts c h in
    let q = vec_is is_key f.0 f.2 in
    let n = one_vector f.1 f.3 in
    (q.0, n.0, key_is q.0 q.1, n.1, f.4 ∙ (λ i. q.2 i ∷ n.2 i ∷ []))

group_list_row : (ts : List TypeTree) → length ts ≡ 2 → misfit_from None 1 (Keys ∷ Items ∷ []) ts ≡ None → IsRow GroupList ts
group_list_row ts c h =
    let f = two_fit Keys Items ts c h in
    let q = vec_is is_key f.0 f.2 in
    let v = vec_is (λ u. true) f.1 f.3 in
    (q.0, v.0, key_is q.0 q.1, f.4 ∙ (λ i. q.2 i ∷ v.2 i ∷ []))

group_count_row : (ts : List TypeTree) → length ts ≡ 1 → misfit_from None 1 (Keys ∷ []) ts ≡ None → IsRow GroupCount ts
group_count_row ts c h =
    let f = one_fits Keys ts c h in
    let q = vec_is is_key f.0 f.1 in
    (q.0, key_is q.0 q.1, f.2 ∙ ap (λ t. t ∷ []) q.2)

column_there : (o : Option TypeTree) (x : ℕ × TypeTree) → unless_some o x ≡ None → (t : TypeTree) × (o ≡ Some t)
column_there (Some t) x h = (t, refl)
column_there None x h = some_none x h

column_row : (n : ℕ) (ts : List TypeTree) → length ts ≡ 1 → misfit_from None 1 (Columns ∷ []) ts ≡ None → no_column (Column n) ts ≡ None → IsRow (Column n) ts
column_row n ts c h i =
    let f = one_fits Columns ts c h in
    let s = table_is f.0 f.1 in
    let e : ts ≡ struct s.0 ∷ [] = f.2 ∙ ap (λ t. t ∷ []) s.2 in
    let there = column_there (nth_type n s.0) (2, struct s.0) (subst (λ xs. no_column (Column n) xs ≡ None) e i) in
    (s.0, there.0, s.1, there.1, e)

-- ---- every call

pub row_of_fits : (call : Call) (ts : List TypeTree) → FitsCall call ts → IsRow call ts
row_of_fits Add ts h = two_row ts h.count (row_none Add ts h.each)
row_of_fits Sub ts h = two_row ts h.count (row_none Sub ts h.each)
row_of_fits Mul ts h = two_row ts h.count (row_none Mul ts h.each)
row_of_fits Scale ts h = number_row ts h.count (row_none Scale ts h.each)
row_of_fits Where ts h = where_row ts h.count (row_none Where ts h.each)
row_of_fits Dot ts h = two_row ts h.count (row_none Dot ts h.each)
row_of_fits Sum ts h = numbers_row ts h.count (row_none Sum ts h.each)
row_of_fits Min ts h = numbers_row ts h.count (row_none Min ts h.each)
row_of_fits Max ts h = numbers_row ts h.count (row_none Max ts h.each)
row_of_fits Slice ts h = slice_row ts h.count (row_none Slice ts h.each)
row_of_fits Take ts h = take_row ts h.count (row_none Take ts h.each)
row_of_fits Histogram ts h = histogram_row ts h.count (row_none Histogram ts h.each)
row_of_fits RowsDot ts h = rows_row ts h.count (row_none RowsDot ts h.each)
row_of_fits (Column n) ts h = column_row n ts h.count (row_none (Column n) ts h.each) (column_none (Column n) ts h.each)
row_of_fits Filter ts h = filter_row ts h.count (row_none Filter ts h.each)
row_of_fits (Compare op) ts h = number_row ts h.count (row_none (Compare op) ts h.each)
row_of_fits (Arith op) ts h = two_row ts h.count (row_none (Arith op) ts h.each)
row_of_fits Count ts h = count_row ts h.count (row_none Count ts h.each)
row_of_fits GroupSum ts h = group_sum_row ts h.count (row_none GroupSum ts h.each)
row_of_fits GroupList ts h = group_list_row ts h.count (row_none GroupList ts h.each)
row_of_fits GroupCount ts h = group_count_row ts h.count (row_none GroupCount ts h.each)
