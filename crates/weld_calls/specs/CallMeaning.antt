-- What each library call answers, by plain lists, or that it faults.
use Rattle.std.specs.Prelude.{Bool, ℕ, zero, suc, if◌then◌else◌, ℤ, pos, ◌*ℤ◌, List, [], ◌∷◌, map, length}
use Rattle.std.specs.List.{list_all}
use Rattle.weld_data.specs.declared.kind.Kind.{Kind}
use Rattle.weld_data.specs.declared.kind.Kind.TheVariants as kinds
use Rattle.weld_data.specs.declared.op.BinOp.{BinOp}
use Rattle.weld_data.specs.declared.op.BinOp.TheVariants as ops
use Rattle.weld_data.specs.Wrapped.{wrapped}
use Rattle.weld_data.specs.Lookup.{same_value}
use Rattle.weld_data.specs.Value.{Value, number, struct, no_values}
use Rattle.weld_tree.specs.TypeTree.{TypeTree, scalar, vec, struct as tuple, dict, build}
use Rattle.weld_builders.specs.Outcome.{Outcome, done, fault, map_out}
use Rattle.weld_builders.specs.Part.{dictionary}
use Rattle.weld_meaning.specs.Thing.{value_field}
use Rattle.weld_meaning.specs.Evaluation.{whole_number, element_at, part_of}
use Rattle.weld_calls.specs.declared.call.Call.{Call}
use Rattle.weld_calls.specs.declared.call.Call.TheVariants.{Add, Sub, Mul, Scale, Where, Dot, Sum, Min, Max, Slice, Take, Histogram, RowsDot, Column, Filter, Compare, Arith, Count, GroupSum, GroupList, GroupCount}
use Rattle.weld_calls.specs.CallTypes.{argument, item}
use Rattle.weld_calls.specs.Lists.{items, number_in, numbers, truths, vector, number_vector, truth_vector, paired, each, marked, how_many, wrapped_sum, least_of, greatest_of, dot, elementwise, chosen, compared, is_place, tallied, by_keys, grouped}

-- the kind of a type of numbers
abbrev pub kind_of : TypeTree → Kind
kind_of (scalar k) = k
kind_of (vec t) = kinds.I64
kind_of (tuple ts) = kinds.I64
kind_of (dict k v) = kinds.I64
kind_of (build b) = kinds.I64

-- the kind of the elements of the argument of that number, from 0
abbrev pub kind_at : ℕ → List TypeTree → Kind
kind_at n types = kind_of (item (argument n types))

-- the argument of that number, from 0
abbrev pub value_at : ℕ → List Value → Value
value_at n [] = struct no_values
value_at zero (v ∷ vs) = v
value_at (suc n) (v ∷ vs) = value_at n vs

-- ---- what several calls share

abbrev pub place_by_place : BinOp → Kind → Value → Value → Outcome Value
place_by_place op k v w = map_out (number_vector k) (elementwise op k (numbers v) (numbers w))

-- ---- calls of their own

abbrev pub scale_meaning : Kind → Value → Value → Value
scale_meaning k v s = number_vector k (map (λ x. wrapped k (x *ℤ number_in s)) (numbers v))

abbrev pub compare_meaning : BinOp → Value → Value → Value
compare_meaning op v s = truth_vector (map (λ x. compared op x (number_in s)) (numbers v))

abbrev pub count_meaning : Value → Value
count_meaning m = whole_number (how_many (λ b. b) (truths m))

abbrev pub filter_meaning : Value → Value → Outcome Value
filter_meaning c m = map_out (λ (ps : List (Value × Bool)). vector (marked ps)) (paired (items c) (truths m))

abbrev pub slice_meaning : Value → Value → Value → Outcome Value
slice_meaning v i n = map_out vector (part_of (items v) (number_in i) (number_in n))

abbrev pub take_meaning : Value → Value → Outcome Value
take_meaning v places = map_out vector (each (element_at (items v)) (numbers places))

abbrev pub where_meaning : Kind → Value → Value → Value → Outcome Value
where_meaning k m v w = map_out (number_vector k) (chosen (truths m) (numbers v) (numbers w))

abbrev pub histogram_meaning : List ℤ → List ℤ → Outcome Value
histogram_meaning places starts = if list_all (is_place (length starts)) places then done (number_vector kinds.I64 (tallied 0 starts places)) else fault

abbrev pub rows_dot_meaning : Kind → Value → Value → Outcome Value
rows_dot_meaning k m w = map_out (number_vector k) (each (λ row. dot k (numbers row) (numbers w)) (items m))

abbrev pub group_sum_meaning : Kind → Value → Value → Outcome Value
group_sum_meaning k keys v = map_out (λ (ps : List (Value × ℤ)). dictionary (number k) (grouped (wrapped_sum k) ps)) (paired (items keys) (numbers v))

abbrev pub group_list_meaning : Value → Value → Outcome Value
group_list_meaning keys v = map_out (λ (ps : List (Value × Value)). dictionary vector (grouped (λ vs. vs) ps)) (paired (items keys) (items v))

abbrev pub group_count_meaning : List Value → Outcome Value
group_count_meaning keys = done (dictionary (number kinds.I64) (by_keys (λ key. wrapped kinds.I64 (pos (how_many (λ k. same_value k key) keys))) keys))

-- ---- each call, on arguments of these types

abbrev pub call_meaning : Call → List TypeTree → List Value → Outcome Value
call_meaning Add ts vs = place_by_place ops.Add (kind_at 0 ts) (value_at 0 vs) (value_at 1 vs)
call_meaning Sub ts vs = place_by_place ops.Sub (kind_at 0 ts) (value_at 0 vs) (value_at 1 vs)
call_meaning Mul ts vs = place_by_place ops.Mul (kind_at 0 ts) (value_at 0 vs) (value_at 1 vs)
call_meaning (Arith op) ts vs = place_by_place op (kind_at 0 ts) (value_at 0 vs) (value_at 1 vs)
call_meaning Scale ts vs = done (scale_meaning (kind_at 0 ts) (value_at 0 vs) (value_at 1 vs))
call_meaning (Compare op) ts vs = done (compare_meaning op (value_at 0 vs) (value_at 1 vs))
call_meaning Where ts vs = where_meaning (kind_at 1 ts) (value_at 0 vs) (value_at 1 vs) (value_at 2 vs)
call_meaning Dot ts vs = map_out (number (kind_at 0 ts)) (dot (kind_at 0 ts) (numbers (value_at 0 vs)) (numbers (value_at 1 vs)))
call_meaning Sum ts vs = done (number (kind_at 0 ts) (wrapped_sum (kind_at 0 ts) (numbers (value_at 0 vs))))
call_meaning Min ts vs = done (number (kind_at 0 ts) (least_of (kind_at 0 ts) (numbers (value_at 0 vs))))
call_meaning Max ts vs = done (number (kind_at 0 ts) (greatest_of (kind_at 0 ts) (numbers (value_at 0 vs))))
call_meaning Slice ts vs = slice_meaning (value_at 0 vs) (value_at 1 vs) (value_at 2 vs)
call_meaning Take ts vs = take_meaning (value_at 0 vs) (value_at 1 vs)
call_meaning Histogram ts vs = histogram_meaning (numbers (value_at 0 vs)) (numbers (value_at 1 vs))
call_meaning RowsDot ts vs = rows_dot_meaning (kind_at 1 ts) (value_at 0 vs) (value_at 1 vs)
call_meaning (Column n) ts vs = value_field n (value_at 0 vs)
call_meaning Filter ts vs = filter_meaning (value_at 0 vs) (value_at 1 vs)
call_meaning Count ts vs = done (count_meaning (value_at 0 vs))
call_meaning GroupSum ts vs = group_sum_meaning (kind_at 1 ts) (value_at 0 vs) (value_at 1 vs)
call_meaning GroupList ts vs = group_list_meaning (value_at 0 vs) (value_at 1 vs)
call_meaning GroupCount ts vs = group_count_meaning (items (value_at 0 vs))
