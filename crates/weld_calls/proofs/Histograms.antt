-- The histogram, and the column of a struct.
use Rattle.std.proofs.Common.{◌≡◌, ℤ, Bool, true, false, cond, List, [], ◌∷◌, map, length, ap, refl, ◌∙◌}
use Rattle.std.specs.List.{list_all}
use Rattle.weld_data.specs.declared.kind.Kind.{Kind}
use Rattle.weld_data.specs.declared.kind.Kind.TheVariants as kinds
use Rattle.weld_data.specs.declared.op.MergeOp.TheVariants as merges
use Rattle.weld_data.specs.Value.{Value, Values, no_values, and_value, number, list, struct, dict, list_of_values}
use Rattle.weld_tree.specs.TypeTree.{scalar, vec, cells as cells_type}
use Rattle.weld_tree.specs.ExprTree.{one, started}
use Rattle.weld_tree.specs.Blank.{blank_at}
use Rattle.weld_tree.specs.HasValue.{HasValue, AllAre}
use Rattle.weld_builders.specs.Outcome.{done, fault, and_then, map_out}
use Rattle.weld_builders.specs.Part.{as_number, as_numbers, as_number_list, cells_part, result_of}
use Rattle.weld_builders.specs.Range.{AllInRange}
use Rattle.weld_meaning.specs.Thing.{plain, building}
use Rattle.weld_meaning.specs.Evaluation.{eval}
use Rattle.weld_calls.specs.CallTypes.{place_type}
use Rattle.weld_calls.specs.declared.call.Call.TheVariants.{Histogram}
use Rattle.weld_calls.specs.CallPrograms.{legs_of, use_of, literal, pair, merged as merged_tree, body_of}
use Rattle.weld_calls.specs.Lists.{number_in, numbers, is_place, tallied}
use Rattle.weld_calls.specs.CallMeaning.{histogram_meaning}
use Rattle.weld_calls.proofs.Arguments.{number_is, in_range, numbers_are}
use Rattle.weld_calls.proofs.Legs.{one_leg}
use Rattle.weld_calls.proofs.LoopLaw.{gathered_is}
use Rattle.weld_calls.proofs.Tallies.{raise, cells, tallies, tallied_fold}
use Rattle.weld_calls.proofs.MappedCalls.{two_arguments}

each_as_number : (k : Kind) (vs : Values) → AllAre (HasValue (scalar k)) vs → as_numbers vs ≡ done (map number_in (list_of_values vs))
each_as_number k no_values h = refl
each_as_number k (and_value v vs) h =
    λ i. and_then (as_number (number_is k v h.0 i)) (λ x. map_out (λ xs. x ∷ xs) (each_as_number k vs h.1 i))

start_numbers : (k : Kind) (v : Value) → HasValue (vec (scalar k)) v → as_number_list v ≡ done (numbers v)
start_numbers k (number m x) h = absurd h
start_numbers k (list vs) h = each_as_number k vs h
start_numbers k (struct vs) h = absurd h
start_numbers k (dict es) h = absurd h

each_in_range : (k : Kind) (vs : Values) → AllAre (HasValue (scalar k)) vs → AllInRange k (map number_in (list_of_values vs))
each_in_range k no_values h = tt
each_in_range k (and_value v vs) h = (in_range k v h.0, each_in_range k vs h.1)

pub all_in_range : (k : Kind) (v : Value) → HasValue (vec (scalar k)) v → AllInRange k (numbers v)
all_in_range k (number m x) h = absurd h
all_in_range k (list vs) h = each_in_range k vs h
all_in_range k (struct vs) h = absurd h
all_in_range k (dict es) h = absurd h

tallied_result : (xs is : List ℤ) → map_out result_of (tallies xs is) ≡ histogram_meaning is xs
tallied_result xs is = by (list_all (is_place (length xs)) is)
  where
    by : (b : Bool) → map_out result_of (cond b (done (cells (tallied 0 xs is))) fault) ≡ cond b (done (result_of (cells (tallied 0 xs is)))) fault
    by true = refl
    by false = refl

pub histogram_is : (v s : Value) → HasValue (vec place_type) v → HasValue (vec place_type) s → eval (body_of Histogram (vec place_type ∷ vec place_type ∷ [])) (two_arguments v s) ≡ map_out plain (histogram_meaning (numbers v) (numbers s))
histogram_is v s h g =
    gathered_is (legs_of (0 ∷ [])) (one blank_at (started (cells_type place_type merges.Add)) (use_of 1)) 2 3 4 (merged_tree (use_of 2) (pair (use_of 4) (literal 1))) (two_arguments v s) (done (numbers v)) (number kinds.I64) (cells (numbers s)) raise
    (one_leg (two_arguments v s) 0 (record { value = v; found = refl; elements = numbers_are kinds.I64 v h }))
    (ap (λ o. map_out building (map_out (cells_part merges.Add kinds.I64) o)) (start_numbers kinds.I64 s g)) (λ q i x. refl)
    ∙ ap (map_out plain) (ap (map_out result_of) (tallied_fold (numbers s) (numbers v) (all_in_range kinds.I64 s g)) ∙ tallied_result (numbers s) (numbers v))
