-- Filters, slices and columns.
use Rattle.std.proofs.Common.{◌≡◌, Bool, true, false, cond, List, [], ◌∷◌, map-id, ap, refl, ◌∙◌}
use Rattle.weld_data.specs.declared.kind.Kind.TheVariants as kinds
use Rattle.weld_data.specs.Value.{Value, list, values}
use Rattle.weld_tree.specs.TypeTree.{TypeTree, vec, list as list_type}
use Rattle.weld_tree.specs.ExprTree.{three, if_else}
use Rattle.weld_tree.specs.Blank.{blank_at}
use Rattle.weld_tree.specs.HasValue.{HasValue}
use Rattle.weld_builders.specs.Outcome.{Outcome, done, fault, stuck, and_then, map_out}
use Rattle.weld_builders.specs.Part.{Part, list_part, as_number, merge_part, result_of}
use Rattle.weld_meaning.specs.Thing.{plain, building}
use Rattle.weld_meaning.specs.Evaluation.{truth_value, part_of, sliced, chosen, eval}
use Rattle.weld_calls.specs.CallTypes.{truth_type, place_type}
use Rattle.weld_calls.specs.declared.call.Call.TheVariants.{Filter, Slice}
use Rattle.weld_calls.specs.CallPrograms.{legs_of, use_of, field_of, fresh_builder, merged as merged_tree, body_of}
use Rattle.weld_calls.specs.Lists.{items, number_in, truths, vector, paired, marked}
use Rattle.weld_calls.specs.Folds.{folded}
use Rattle.weld_calls.proofs.Arguments.{items_are, number_is, truths_are}
use Rattle.weld_calls.proofs.Legs.{pair_row, two_legs}
use Rattle.weld_calls.proofs.LoopLaw.{gathered_is}
use Rattle.weld_calls.proofs.Shapes.{marked_step, marked_fold}
use Rattle.weld_calls.proofs.MappedCalls.{two_arguments, three_arguments, itself, themselves}

chosen_is : (b : Bool) (o : Outcome Part) (q : Part) → chosen (plain (truth_value b)) (map_out building o) (done (building q)) ≡ map_out building (cond b o (done q))
chosen_is true o q = refl
chosen_is false o q = refl

marked_result : (o : Outcome (List (Value × Bool))) → and_then o (λ ps. map_out result_of (folded (marked_step itself) (list_part []) ps)) ≡ map_out (λ ps. vector (marked ps)) o
marked_result (done ps) =
    ap (map_out result_of) (marked_fold itself [] ps) ∙ ap (λ vs. done (vector vs)) (map-id (marked ps))
marked_result fault = refl
marked_result stuck = refl

pub filter_is : (t : TypeTree) (c m : Value) → HasValue (vec t) c → HasValue (vec truth_type) m → eval (body_of Filter (vec t ∷ vec truth_type ∷ [])) (two_arguments c m) ≡ map_out plain (map_out (λ ps. vector (marked ps)) (paired (items c) (truths m)))
filter_is t c m h g =
    gathered_is (legs_of (0 ∷ 1 ∷ [])) (fresh_builder (list_type t)) 2 3 4 (three blank_at if_else (field_of 1 (use_of 4)) (merged_tree (use_of 2) (field_of 0 (use_of 4))) (use_of 2)) (two_arguments c m) (paired (items c) (truths m)) (pair_row itself truth_value) (list_part []) (marked_step itself)
    (two_legs (two_arguments c m) 0 1 (record { value = c; found = refl; elements = themselves t c h }) (record { value = m; found = refl; elements = truths_are m g })) refl
    (λ q i p. chosen_is p.1 (merge_part q p.0) q)
    ∙ ap (map_out plain) (marked_result (paired (items c) (truths m)))

sliced_is : (t : TypeTree) (v i n : Value) → HasValue (vec t) v → HasValue place_type i → HasValue place_type n → sliced v i n ≡ map_out vector (part_of (items v) (number_in i) (number_in n))
sliced_is t v i n h g f =
    λ j. and_then (items_are t v h j) (λ vs. and_then (as_number (number_is kinds.I64 i g j)) (λ x. and_then (as_number (number_is kinds.I64 n f j)) (λ y. map_out (λ ws. list (values ws)) (part_of vs x y))))

pub slice_is : (t : TypeTree) (v i n : Value) → HasValue (vec t) v → HasValue place_type i → HasValue place_type n → eval (body_of Slice (vec t ∷ place_type ∷ place_type ∷ [])) (three_arguments v i n) ≡ map_out plain (map_out vector (part_of (items v) (number_in i) (number_in n)))
slice_is t v i n h g f = ap (map_out plain) (sliced_is t v i n h g f)
