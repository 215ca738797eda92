-- Calls whose answer is a dictionary.
use Rattle.std.proofs.Common.{◌≡◌, ℤ, pos, List, [], ◌∷◌, map, map-id, length, ap, sym, refl, ◌∙◌}
use Rattle.std.specs.FinMap as finite
use Rattle.weld_data.specs.declared.kind.Kind.{Kind}
use Rattle.weld_data.specs.declared.kind.Kind.TheVariants as kinds
use Rattle.weld_data.specs.declared.op.MergeOp.TheVariants as merges
use Rattle.weld_data.specs.Wrapped.{wrapped}
use Rattle.weld_data.specs.Lookup.{same_value}
use Rattle.weld_data.specs.Value.{Value, number, struct, no_values, and_value}
use Rattle.weld_tree.specs.TypeTree.{TypeTree, scalar, vec, keyed, groups}
use Rattle.weld_tree.specs.HasValue.{HasValue}
use Rattle.weld_builders.specs.Outcome.{Outcome, done, fault, stuck, and_then, map_out}
use Rattle.weld_builders.specs.Part.{Part, keyed_part, groups_part, combined as combined_number, appended, merge_part, result_of, dictionary}
use Rattle.weld_meaning.specs.Thing.{plain}
use Rattle.weld_meaning.specs.Evaluation.{eval}
use Rattle.weld_calls.specs.CallTypes.{place_type}
use Rattle.weld_calls.specs.CallPrograms.{merging, legs_of, use_of, literal, pair, fresh_builder, merged as merged_tree}
use Rattle.weld_calls.specs.Lists.{items, numbers, vector, paired, how_many, wrapped_sum, by_keys, beside, grouped}
use Rattle.weld_calls.specs.CallMeaning.{group_sum_meaning, group_list_meaning, group_count_meaning}
use Rattle.weld_calls.proofs.Outcomes.{and_then-same}
use Rattle.weld_calls.proofs.Eaches.{map-map}
use Rattle.weld_calls.proofs.Groups.{merge_all, merged_by_keys, by_keys_same, chained_sum, chained_count, chained_list, beside_itself}
use Rattle.weld_calls.proofs.Arguments.{wrapped_are}
use Rattle.weld_calls.proofs.Legs.{pair_row, one_leg, two_legs}
use Rattle.weld_calls.proofs.LoopLaw.{gathered_is}
use Rattle.weld_calls.proofs.Shapes.{keyed_fold, groups_fold}
use Rattle.weld_calls.proofs.MappedCalls.{one_argument, two_arguments, itself, themselves}

and_then-done : {A B : Type 0} (o : Outcome A) (f : A → B) → and_then o (λ x. done (f x)) ≡ map_out f o
and_then-done (done x) f = refl
and_then-done fault f = refl
and_then-done stuck f = refl

-- a key, and a number
abbrev number_at : Kind → Part → Value × ℤ → Outcome Part
number_at k q p = merge_part q (struct (and_value p.0 (and_value (number k (wrapped k p.1)) no_values)))

pub group_sum_is : (key : TypeTree) (k : Kind) (keys v : Value) → HasValue (vec key) keys → HasValue (vec (scalar k)) v → eval (merging (0 ∷ 1 ∷ []) (fresh_builder (keyed key (scalar k) merges.Add)) 2 (use_of 4)) (two_arguments keys v) ≡ map_out plain (group_sum_meaning k keys v)
group_sum_is key k keys v h g =
    gathered_is (legs_of (0 ∷ 1 ∷ [])) (fresh_builder (keyed key (scalar k) merges.Add)) 2 3 4 (merged_tree (use_of 2) (use_of 4)) (two_arguments keys v) (paired (items keys) (numbers v)) (pair_row itself (λ x. number k (wrapped k x))) (keyed_part merges.Add k finite.empty) (number_at k)
    (two_legs (two_arguments keys v) 0 1 (record { value = keys; found = refl; elements = themselves key keys h }) (record { value = v; found = refl; elements = wrapped_are k v g })) refl (λ q i p. refl)
    ∙ ap (map_out plain) (and_then-same (paired (items keys) (numbers v)) _ _ (λ ps. ap (map_out result_of) (keyed_fold merges.Add k (λ (p : Value × ℤ). p.0) (λ (p : Value × ℤ). wrapped k p.1) finite.empty ps) ∙ ap (λ m. done (dictionary (number k) m)) (merged_by_keys (combined_number merges.Add k) (wrapped k) (wrapped_sum k) ps (chained_sum k))) ∙ and_then-done (paired (items keys) (numbers v)) (λ ps. dictionary (number k) (grouped (wrapped_sum k) ps)))

-- a key, and a value
abbrev value_at : Part → Value × Value → Outcome Part
value_at q p = merge_part q (struct (and_value p.0 (and_value p.1 no_values)))

pub group_list_is : (key t : TypeTree) (keys v : Value) → HasValue (vec key) keys → HasValue (vec t) v → eval (merging (0 ∷ 1 ∷ []) (fresh_builder (groups key t)) 2 (use_of 4)) (two_arguments keys v) ≡ map_out plain (group_list_meaning keys v)
group_list_is key t keys v h g =
    gathered_is (legs_of (0 ∷ 1 ∷ [])) (fresh_builder (groups key t)) 2 3 4 (merged_tree (use_of 2) (use_of 4)) (two_arguments keys v) (paired (items keys) (items v)) (pair_row itself itself) (groups_part finite.empty) value_at
    (two_legs (two_arguments keys v) 0 1 (record { value = keys; found = refl; elements = themselves key keys h }) (record { value = v; found = refl; elements = themselves t v g })) refl (λ q i p. refl)
    ∙ ap (map_out plain) (and_then-same (paired (items keys) (items v)) _ _ (λ ps. ap (map_out result_of) (groups_fold (λ (p : Value × Value). p.0) (λ (p : Value × Value). p.1) finite.empty ps) ∙ ap (λ m. done (dictionary vector m)) (merged_by_keys appended (λ (u : Value). u ∷ []) (λ us. us) ps chained_list)) ∙ and_then-done (paired (items keys) (items v)) (λ ps. dictionary vector (grouped (λ us. us) ps)))

-- a key, and 1
abbrev one_at : Part → Value → Outcome Part
one_at q u = merge_part q (struct (and_value u (and_value (number kinds.I64 (pos 1)) no_values)))

counted_keys : (keys : List Value) → merge_all (combined_number merges.Add kinds.I64) finite.empty (map (λ (u : Value). (u, pos 1)) keys) ≡ by_keys (λ key. wrapped kinds.I64 (pos (how_many (λ k. same_value k key) keys))) keys
counted_keys keys =
    ap (merge_all (combined_number merges.Add kinds.I64) finite.empty) (sym (map-map (λ (u : Value). (u, u)) (λ (p : Value × Value). (p.0, pos 1)) keys))
    ∙ merged_by_keys (combined_number merges.Add kinds.I64) (λ (u : Value). pos 1) (λ vs. wrapped kinds.I64 (pos (length vs))) (map (λ (u : Value). (u, u)) keys) chained_count
    ∙ ap (by_keys (λ key. wrapped kinds.I64 (pos (length (beside key (map (λ (u : Value). (u, u)) keys)))))) (map-map (λ (u : Value). (u, u)) (λ (p : Value × Value). p.0) keys ∙ map-id keys)
    ∙ by_keys_same _ _ keys (λ q. ap (λ n. wrapped kinds.I64 (pos n)) (beside_itself keys q))

pub group_count_is : (key : TypeTree) (keys : Value) → HasValue (vec key) keys → eval (merging (0 ∷ []) (fresh_builder (keyed key place_type merges.Add)) 1 (pair (use_of 3) (literal 1))) (one_argument keys) ≡ map_out plain (group_count_meaning (items keys))
group_count_is key keys h =
    gathered_is (legs_of (0 ∷ [])) (fresh_builder (keyed key place_type merges.Add)) 1 2 3 (merged_tree (use_of 1) (pair (use_of 3) (literal 1))) (one_argument keys) (done (items keys)) itself (keyed_part merges.Add kinds.I64 finite.empty) one_at
    (one_leg (one_argument keys) 0 (record { value = keys; found = refl; elements = themselves key keys h })) refl (λ q i u. refl)
    ∙ ap (map_out plain) (ap (map_out result_of) (keyed_fold merges.Add kinds.I64 itself (λ (u : Value). pos 1) finite.empty (items keys)) ∙ ap (λ m. done (dictionary (number kinds.I64) m)) (counted_keys (items keys)))
