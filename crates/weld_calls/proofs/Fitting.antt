-- The types of a row of the table fit the call.
use Rattle.std.proofs.Common.{◌≡◌, ℕ, Bool, true, ◌&&◌, if◌then◌else◌, List, [], ◌∷◌, Option, Some, None, option_map, refl, sym, ap, subst, ◌∙◌}
use Rattle.weld_data.specs.declared.kind.Kind.{Kind}
use Rattle.weld_data.specs.declared.kind.Kind.TheVariants as kinds
use Rattle.weld_data.specs.Kind.{IsInteger}
use Rattle.weld_tree.specs.TypeTree.{TypeTree, TypeTrees, scalar, vec, struct, no_types, more_types}
use Rattle.weld_tree.specs.Types.{IsKey, IsKeyField, AreKeyFields}
use Rattle.weld_calls.specs.declared.call.Call.{Call}
use Rattle.weld_calls.specs.declared.call.Call.TheVariants.{Add, Sub, Mul, Scale, Where, Dot, Sum, Min, Max, Slice, Take, Histogram, RowsDot, Column, Filter, Compare, Arith, Count, GroupSum, GroupList, GroupCount}
use Rattle.weld_calls.specs.declared.pattern.Pattern.TheVariants.{Number, Numbers, Rows, Truths, Items, Keys}
use Rattle.weld_calls.specs.CallTypes.{is_key_field, are_key_fields, is_key, is_vec, are_vecs, first_of, unless_some, nth_type, as_written, misfit_from, FitsCall, truth_type}
use Rattle.weld_calls.specs.CallRows.{OneVector, TwoVectors, VectorAndNumber, AreColumns, IsRow}

-- ---- keys and columns

field_key : (t : TypeTree) → IsKeyField t → is_key_field t ≡ true
field_key (scalar k) h = refl
field_key (vec (scalar k)) h = refl
field_key (vec _) h = absurd h
field_key _ h = absurd h

fields_keys : (ts : TypeTrees) → AreKeyFields ts → are_key_fields ts ≡ true
fields_keys no_types h = refl
fields_keys (more_types t ts) h = (λ i. field_key t h.0 i && are_key_fields ts) ∙ fields_keys ts h.1

pub key_true : (t : TypeTree) → IsKey t → is_key t ≡ true
key_true (scalar k) h = refl
key_true (vec (scalar k)) h = refl
key_true (vec _) h = absurd h
key_true (struct no_types) h = absurd h.0
key_true (struct (more_types t ts)) h = fields_keys (more_types t ts) h.1
key_true _ h = absurd h

columns_true : (ts : TypeTrees) → AreColumns ts → are_vecs ts ≡ true
columns_true no_types h = refl
columns_true (more_types t ts) h = (λ i. is_vec (λ u. true) (h.0.1 i) && are_vecs ts) ∙ columns_true ts h.1

-- ---- rows of numbers of one kind

one_fits : (k : Kind) → IsInteger k → misfit_from None 1 (Numbers ∷ []) (vec (scalar k) ∷ []) ≡ None
one_fits kinds.Bool h = absurd h
one_fits kinds.I8 h = refl
one_fits kinds.I16 h = refl
one_fits kinds.I32 h = refl
one_fits kinds.I64 h = refl
one_fits kinds.U8 h = refl
one_fits kinds.U16 h = refl
one_fits kinds.U32 h = refl
one_fits kinds.U64 h = refl

two_fit : (k : Kind) → IsInteger k → misfit_from None 1 (Numbers ∷ Numbers ∷ []) (vec (scalar k) ∷ vec (scalar k) ∷ []) ≡ None
two_fit kinds.Bool h = absurd h
two_fit kinds.I8 h = refl
two_fit kinds.I16 h = refl
two_fit kinds.I32 h = refl
two_fit kinds.I64 h = refl
two_fit kinds.U8 h = refl
two_fit kinds.U16 h = refl
two_fit kinds.U32 h = refl
two_fit kinds.U64 h = refl

number_fits : (k : Kind) → IsInteger k → misfit_from None 1 (Numbers ∷ Number ∷ []) (vec (scalar k) ∷ scalar k ∷ []) ≡ None
number_fits kinds.Bool h = absurd h
number_fits kinds.I8 h = refl
number_fits kinds.I16 h = refl
number_fits kinds.I32 h = refl
number_fits kinds.I64 h = refl
number_fits kinds.U8 h = refl
number_fits kinds.U16 h = refl
number_fits kinds.U32 h = refl
number_fits kinds.U64 h = refl

where_fits : (k : Kind) → IsInteger k → misfit_from None 1 (Truths ∷ Numbers ∷ Numbers ∷ []) (vec truth_type ∷ vec (scalar k) ∷ vec (scalar k) ∷ []) ≡ None
where_fits kinds.Bool h = absurd h
where_fits kinds.I8 h = refl
where_fits kinds.I16 h = refl
where_fits kinds.I32 h = refl
where_fits kinds.I64 h = refl
where_fits kinds.U8 h = refl
where_fits kinds.U16 h = refl
where_fits kinds.U32 h = refl
where_fits kinds.U64 h = refl

rows_fit : (k : Kind) → IsInteger k → misfit_from None 1 (Rows ∷ Numbers ∷ []) (vec (vec (scalar k)) ∷ vec (scalar k) ∷ []) ≡ None
rows_fit kinds.Bool h = absurd h
rows_fit kinds.I8 h = refl
rows_fit kinds.I16 h = refl
rows_fit kinds.I32 h = refl
rows_fit kinds.I64 h = refl
rows_fit kinds.U8 h = refl
rows_fit kinds.U16 h = refl
rows_fit kinds.U32 h = refl
rows_fit kinds.U64 h = refl

-- ---- the calls

-- nothing else is refused
alone : (f : ℕ × TypeTree → ℕ × TypeTree) (x : Option (ℕ × TypeTree)) → x ≡ None → first_of (option_map f x) None ≡ None
alone f x h = ap (λ y. first_of (option_map f y) None) h

vector_call : (call : Call) (ts : List TypeTree) → ((k : Kind) → IsInteger k → FitsCall call (vec (scalar k) ∷ [])) → OneVector ts → FitsCall call ts
vector_call call ts f r = subst (FitsCall call) (sym r.2) (f r.0 r.1)

vectors_call : (call : Call) (ts : List TypeTree) → ((k : Kind) → IsInteger k → FitsCall call (vec (scalar k) ∷ vec (scalar k) ∷ [])) → TwoVectors ts → FitsCall call ts
vectors_call call ts f r = subst (FitsCall call) (sym r.2) (f r.0 r.1)

number_call : (call : Call) (ts : List TypeTree) → ((k : Kind) → IsInteger k → FitsCall call (vec (scalar k) ∷ scalar k ∷ [])) → VectorAndNumber ts → FitsCall call ts
number_call call ts f r = subst (FitsCall call) (sym r.2) (f r.0 r.1)

-- the column is there
column_fits : (n : ℕ) (us : TypeTrees) (t : TypeTree) → AreColumns us → nth_type n us ≡ Some t → FitsCall (Column n) (struct us ∷ [])
column_fits n us t are e = record {
  count = refl;
  each = (λ i. first_of (option_map (as_written (Column n)) (if columns_true us are i then None else Some (1, struct us))) (unless_some (e i) (2, struct us)));
}

-- by whether the first type is one of keys
abbrev keys_so : TypeTree → Option (ℕ × TypeTree) → Bool → Option (ℕ × TypeTree)
keys_so t later b = if b then later else Some (1, t)

keys_numbers : (q : TypeTree) (k : Kind) → is_key q ≡ true → IsInteger k → misfit_from None 1 (Keys ∷ Numbers ∷ []) (vec q ∷ vec (scalar k) ∷ []) ≡ None
keys_numbers q k e h = (λ i. keys_so (vec q) (misfit_from None 2 (Numbers ∷ []) (vec (scalar k) ∷ [])) (e i)) ∙ second k h
  where
    second : (k : Kind) → IsInteger k → misfit_from None 2 (Numbers ∷ []) (vec (scalar k) ∷ []) ≡ None
    second kinds.Bool h = absurd h
    second kinds.I8 h = refl
    second kinds.I16 h = refl
    second kinds.I32 h = refl
    second kinds.I64 h = refl
    second kinds.U8 h = refl
    second kinds.U16 h = refl
    second kinds.U32 h = refl
    second kinds.U64 h = refl

pub fits_of_row : (call : Call) (ts : List TypeTree) → IsRow call ts → FitsCall call ts
fits_of_row Add ts r = vectors_call Add ts (λ k h. record { count = refl; each = alone (as_written Add) _ (two_fit k h) }) r
fits_of_row Sub ts r = vectors_call Sub ts (λ k h. record { count = refl; each = alone (as_written Sub) _ (two_fit k h) }) r
fits_of_row Mul ts r = vectors_call Mul ts (λ k h. record { count = refl; each = alone (as_written Mul) _ (two_fit k h) }) r
fits_of_row Scale ts r = number_call Scale ts (λ k h. record { count = refl; each = alone (as_written Scale) _ (number_fits k h) }) r
fits_of_row Where ts r = subst (FitsCall Where) (sym r.2) (record { count = refl; each = alone (as_written Where) _ (where_fits r.0 r.1) })
fits_of_row Dot ts r = vectors_call Dot ts (λ k h. record { count = refl; each = alone (as_written Dot) _ (two_fit k h) }) r
fits_of_row Sum ts r = vector_call Sum ts (λ k h. record { count = refl; each = alone (as_written Sum) _ (one_fits k h) }) r
fits_of_row Min ts r = vector_call Min ts (λ k h. record { count = refl; each = alone (as_written Min) _ (one_fits k h) }) r
fits_of_row Max ts r = vector_call Max ts (λ k h. record { count = refl; each = alone (as_written Max) _ (one_fits k h) }) r
fits_of_row Slice ts r = subst (FitsCall Slice) (sym r.1) (record { count = refl; each = refl })
fits_of_row Take ts r = subst (FitsCall Take) (sym r.1) (record { count = refl; each = refl })
fits_of_row Histogram ts r = subst (FitsCall Histogram) (sym r) (record { count = refl; each = refl })
fits_of_row RowsDot ts r = subst (FitsCall RowsDot) (sym r.2) (record { count = refl; each = alone (as_written RowsDot) _ (rows_fit r.0 r.1) })
fits_of_row (Column n) ts r = subst (FitsCall (Column n)) (sym r.4) (column_fits n r.0 r.1 r.2 r.3)
fits_of_row Filter ts r = subst (FitsCall Filter) (sym r.1) (record { count = refl; each = refl })
fits_of_row (Compare op) ts r = number_call (Compare op) ts (λ k h. record { count = refl; each = alone (as_written (Compare op)) _ (number_fits k h) }) r
fits_of_row (Arith op) ts r = vectors_call (Arith op) ts (λ k h. record { count = refl; each = alone (as_written (Arith op)) _ (two_fit k h) }) r
fits_of_row Count ts r = subst (FitsCall Count) (sym r) (record { count = refl; each = refl })
fits_of_row GroupSum ts r = subst (FitsCall GroupSum) (sym r.4) (record { count = refl; each = alone (as_written GroupSum) _ (keys_numbers r.0 r.1 (key_true r.0 r.2) r.3) })
fits_of_row GroupList ts r = subst (FitsCall GroupList) (sym r.3) (record { count = refl; each = alone (as_written GroupList) _ (λ i. keys_so (vec r.0) (misfit_from None 2 (Items ∷ []) (vec r.1 ∷ [])) (key_true r.0 r.2 i)) })
fits_of_row GroupCount ts r = subst (FitsCall GroupCount) (sym r.2) (record { count = refl; each = alone (as_written GroupCount) _ (λ i. keys_so (vec r.0) None (key_true r.0 r.1 i)) })
