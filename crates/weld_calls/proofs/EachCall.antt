-- Each call's program, on arguments of its parameters' types, comes to the call's plain list meaning.
use Rattle.std.proofs.Common.{◌≡◌, List, [], ◌∷◌, ap, sym, ◌∙◌, subst}
use Rattle.weld_data.specs.declared.kind.Kind.{Kind}
use Rattle.weld_data.specs.declared.op.BinOp.TheVariants as ops
use Rattle.weld_data.specs.declared.op.MergeOp.TheVariants as merges
use Rattle.weld_data.specs.Value.{Value}
use Rattle.weld_tree.specs.TypeTree.{TypeTree, scalar, vec, struct}
use Rattle.weld_tree.specs.HasValue.{HasValue}
use Rattle.weld_builders.specs.Outcome.{Outcome, map_out}
use Rattle.weld_meaning.specs.Thing.{Thing, plain, value_field}
use Rattle.weld_meaning.specs.Evaluation.{value_out}
use Rattle.weld_meaning.specs.Meaning.{ArgumentsFit, meaning}
use Rattle.weld_calls.specs.declared.call.Call.{Call}
use Rattle.weld_calls.specs.declared.call.Call.TheVariants.{Add, Sub, Mul, Scale, Where, Dot, Sum, Min, Max, Slice, Take, Histogram, RowsDot, Column, Filter, Compare, Arith, Count, GroupSum, GroupList, GroupCount}
use Rattle.weld_calls.specs.CallTypes.{HasItsOperator, truth_type, place_type}
use Rattle.weld_calls.specs.CallRows.{OneVector, TwoVectors, VectorAndNumber, IsRow}
use Rattle.weld_calls.specs.CallPrograms.{params_from, fragment}
use Rattle.weld_calls.specs.CallMeaning.{call_meaning}
use Rattle.weld_calls.proofs.Outcomes.{value_of_plain}
use Rattle.weld_calls.proofs.MappedCalls.{zipped_is, scale_is, compare_is, where_is, take_is}
use Rattle.weld_calls.proofs.TotalCalls.{reduced_is, dot_is, rows_dot_is, count_is}
use Rattle.weld_calls.proofs.KeyCalls.{group_sum_is, group_list_is, group_count_is}
use Rattle.weld_calls.proofs.OtherCalls.{filter_is, slice_is}
use Rattle.weld_calls.proofs.Histograms.{histogram_is}

-- ---- as many arguments as parameters

one_value : (C : List Value → Type 0) (s : TypeTree) (vs : List Value) → ArgumentsFit (params_from 0 (s ∷ [])) vs → ((u : Value) → HasValue s u → C (u ∷ [])) → C vs
one_value C s [] h k = absurd h
one_value C s (u ∷ []) h k = k u h.0
one_value C s (u ∷ v ∷ vs) h k = absurd h.1

two_values : (C : List Value → Type 0) (s t : TypeTree) (vs : List Value) → ArgumentsFit (params_from 0 (s ∷ t ∷ [])) vs → ((u v : Value) → HasValue s u → HasValue t v → C (u ∷ v ∷ [])) → C vs
two_values C s t [] h k = absurd h
two_values C s t (u ∷ []) h k = absurd h.1
two_values C s t (u ∷ v ∷ []) h k = k u v h.0 h.1.0
two_values C s t (u ∷ v ∷ w ∷ vs) h k = absurd h.1.1

three_values : (C : List Value → Type 0) (r s t : TypeTree) (vs : List Value) → ArgumentsFit (params_from 0 (r ∷ s ∷ t ∷ [])) vs → ((u v w : Value) → HasValue r u → HasValue s v → HasValue t w → C (u ∷ v ∷ w ∷ [])) → C vs
three_values C r s t [] h k = absurd h
three_values C r s t (u ∷ []) h k = absurd h.1
three_values C r s t (u ∷ v ∷ []) h k = absurd h.1.1
three_values C r s t (u ∷ v ∷ w ∷ []) h k = k u v w h.0 h.1.0 h.1.1.0
three_values C r s t (u ∷ v ∷ w ∷ x ∷ vs) h k = absurd h.1.1.1

-- ---- a call on types that fit it

abbrev Means : Call → List TypeTree → List Value → Type 0
Means call types vs = meaning (fragment call types) vs ≡ call_meaning call types vs

abbrev OnAll : Call → List TypeTree → Type 0
OnAll call types = (vs : List Value) → ArgumentsFit (params_from 0 types) vs → Means call types vs

comes_to : {o : Outcome Thing} {p : Outcome Value} → o ≡ map_out plain p → value_out o ≡ p
comes_to {p = p} e = ap value_out e ∙ value_of_plain p

one_vector : (call : Call) (types : List TypeTree) → OneVector types → ((k : Kind) (v : Value) → HasValue (vec (scalar k)) v → Means call (vec (scalar k) ∷ []) (v ∷ [])) → OnAll call types
one_vector call types r law =
    subst (OnAll call) (sym r.2) (λ vs h. one_value (Means call (vec (scalar r.0) ∷ [])) (vec (scalar r.0)) vs h (law r.0))

two_vectors : (call : Call) (types : List TypeTree) → TwoVectors types → ((k : Kind) (v w : Value) → HasValue (vec (scalar k)) v → HasValue (vec (scalar k)) w → Means call (vec (scalar k) ∷ vec (scalar k) ∷ []) (v ∷ w ∷ [])) → OnAll call types
two_vectors call types r law =
    subst (OnAll call) (sym r.2) (λ vs h. two_values (Means call (vec (scalar r.0) ∷ vec (scalar r.0) ∷ [])) (vec (scalar r.0)) (vec (scalar r.0)) vs h (law r.0))

vector_and_number : (call : Call) (types : List TypeTree) → VectorAndNumber types → ((k : Kind) (v w : Value) → HasValue (vec (scalar k)) v → HasValue (scalar k) w → Means call (vec (scalar k) ∷ scalar k ∷ []) (v ∷ w ∷ [])) → OnAll call types
vector_and_number call types r law =
    subst (OnAll call) (sym r.2) (λ vs h. two_values (Means call (vec (scalar r.0) ∷ scalar r.0 ∷ [])) (vec (scalar r.0)) (scalar r.0) vs h (law r.0))

on_one : (call : Call) (types : List TypeTree) (s : TypeTree) → types ≡ s ∷ [] → ((u : Value) → HasValue s u → Means call (s ∷ []) (u ∷ [])) → OnAll call types
on_one call types s e law = subst (OnAll call) (sym e) (λ vs h. one_value (Means call (s ∷ [])) s vs h law)

on_two : (call : Call) (types : List TypeTree) (s t : TypeTree) → types ≡ s ∷ t ∷ [] → ((u v : Value) → HasValue s u → HasValue t v → Means call (s ∷ t ∷ []) (u ∷ v ∷ [])) → OnAll call types
on_two call types s t e law = subst (OnAll call) (sym e) (λ vs h. two_values (Means call (s ∷ t ∷ [])) s t vs h law)

on_three : (call : Call) (types : List TypeTree) (r s t : TypeTree) → types ≡ r ∷ s ∷ t ∷ [] → ((u v w : Value) → HasValue r u → HasValue s v → HasValue t w → Means call (r ∷ s ∷ t ∷ []) (u ∷ v ∷ w ∷ [])) → OnAll call types
on_three call types r s t e law =
    subst (OnAll call) (sym e) (λ vs h. three_values (Means call (r ∷ s ∷ t ∷ [])) r s t vs h law)

-- ---- all calls

pub each_call : (call : Call) (types : List TypeTree) → HasItsOperator call → IsRow call types → OnAll call types
each_call Add ts o r = two_vectors Add ts r (λ k v w h g. comes_to (zipped_is ops.Add k v w tt h g))
each_call Sub ts o r = two_vectors Sub ts r (λ k v w h g. comes_to (zipped_is ops.Sub k v w tt h g))
each_call Mul ts o r = two_vectors Mul ts r (λ k v w h g. comes_to (zipped_is ops.Mul k v w tt h g))
each_call (Arith op) ts o r = two_vectors (Arith op) ts r (λ k v w h g. comes_to (zipped_is op k v w o h g))
each_call Scale ts o r = vector_and_number Scale ts r (λ k v s h g. ap value_out (scale_is k v s h g))
each_call (Compare op) ts o r =
    vector_and_number (Compare op) ts r (λ k v s h g. ap value_out (compare_is op k v s o h g))
each_call Dot ts o r = two_vectors Dot ts r (λ k v w h g. comes_to (dot_is k v w h g))
each_call Sum ts o r = one_vector Sum ts r (λ k v h. ap value_out (reduced_is merges.Add k v h))
each_call Min ts o r = one_vector Min ts r (λ k v h. ap value_out (reduced_is merges.Min k v h))
each_call Max ts o r = one_vector Max ts r (λ k v h. ap value_out (reduced_is merges.Max k v h))
each_call Where ts o r =
    on_three Where ts (vec truth_type) (vec (scalar r.0)) (vec (scalar r.0)) r.2 (λ m v w h g f. comes_to (where_is r.0 m v w h g f))
each_call Slice ts o r =
    on_three Slice ts (vec r.0) place_type place_type r.1 (λ v i n h g f. comes_to (slice_is r.0 v i n h g f))
each_call Take ts o r = on_two Take ts (vec r.0) (vec place_type) r.1 (λ v p h g. comes_to (take_is r.0 v p h g))
each_call Histogram ts o r =
    on_two Histogram ts (vec place_type) (vec place_type) r (λ v s h g. comes_to (histogram_is v s h g))
each_call RowsDot ts o r =
    on_two RowsDot ts (vec (vec (scalar r.0))) (vec (scalar r.0)) r.2 (λ m w h g. comes_to (rows_dot_is r.0 m w h g))
each_call (Column n) ts o r = on_one (Column n) ts (struct r.0) r.4 (λ v h. value_of_plain (value_field n v))
each_call Filter ts o r = on_two Filter ts (vec r.0) (vec truth_type) r.1 (λ c m h g. comes_to (filter_is r.0 c m h g))
each_call Count ts o r = on_one Count ts (vec truth_type) r (λ m h. ap value_out (count_is m h))
each_call GroupSum ts o r =
    on_two GroupSum ts (vec r.0) (vec (scalar r.1)) r.4 (λ keys v h g. comes_to (group_sum_is r.0 r.1 keys v h g))
each_call GroupList ts o r =
    on_two GroupList ts (vec r.0) (vec r.1) r.3 (λ keys v h g. comes_to (group_list_is r.0 r.1 keys v h g))
each_call GroupCount ts o r = on_one GroupCount ts (vec r.0) r.2 (λ keys h. comes_to (group_count_is r.0 keys h))
