-- Groups keep the order of merges.
use Rattle.std.proofs.Common.{◌≡◌, Option, Some, None, List, [], ◌∷◌, ◌++◌, Bool, true, false, cond, append_assoc, append-nil, Decides, ap, sym, refl, ◌∙◌}
use Rattle.std.specs.Ordering.{eq_by_cmp}
use Rattle.std.specs.Cmp.{Equal-is, tied_itself}
use Rattle.std.specs.Bool.{one_answer}
use Rattle.std.specs.FinMap as finite
use Rattle.weld_data.specs.Value.{Value}
use Rattle.weld_data.specs.Lookup.{same_value}
use Rattle.weld_data.proofs.Lookups.{Decides-same_value}
use Rattle.weld_builders.specs.ValueOrder.{value_cmp, ValueMap}
use Rattle.weld_builders.specs.Part.{appended, merge_key}
use Rattle.weld_builders.specs.Groups.{merge_pairs, values_at, or_none, group_at}
use Rattle.weld_builders.proofs.Order.{value_cmp_total, value_cmp-IsAntisymmetric}
use Rattle.weld_builders.proofs.Maps.{get-merge_key}

-- keys tie exactly where they are equal
pub ties_are_equal : (q k : Value) → eq_by_cmp value_cmp q k ≡ same_value k q
ties_are_equal q k = one_answer _ _ decides (Decides-same_value k q)
  where
    decides : Decides (eq_by_cmp value_cmp q k) (k ≡ q)
    decides = (
      λ e. sym (value_cmp-IsAntisymmetric q k ((Equal-is (value_cmp q k)).0 e)),
      λ e. (Equal-is (value_cmp q k)).1 (ap (value_cmp q) e ∙ tied_itself value_cmp_total q),
    )

pub group_at-merge_pairs : (m : ValueMap (List Value)) (es : List (Value × Value)) (q : Value) → group_at (merge_pairs m es) q ≡ group_at m q ++ values_at q es
group_at-merge_pairs m [] q = sym (append-nil (group_at m q))
group_at-merge_pairs m (e ∷ es) q =
    group_at-merge_pairs (merge_key appended m e.0 (e.1 ∷ [])) es q
    ∙ ap (λ (o : Option (List Value)). or_none o ++ values_at q es) (get-merge_key appended m e.0 (e.1 ∷ []) q)
    ∙ ap (λ b. or_none (cond b (Some (appended (finite.get m e.0) (e.1 ∷ []))) (finite.get m q)) ++ values_at q es) (ties_are_equal q e.0)
    ∙ by (same_value e.0 q) (Decides-same_value e.0 q)
  where
    there : (o : Option (List Value)) → appended o (e.1 ∷ []) ++ values_at q es ≡ or_none o ++ (e.1 ∷ values_at q es)
    there None = refl
    there (Some vs) = append_assoc vs (e.1 ∷ []) (values_at q es)

    by : (b : Bool) → Decides b (e.0 ≡ q) → or_none (cond b (Some (appended (finite.get m e.0) (e.1 ∷ []))) (finite.get m q)) ++ values_at q es ≡ group_at m q ++ cond b (e.1 ∷ values_at q es) (values_at q es)
    by true d = there (finite.get m e.0) ∙ ap (λ k. or_none (finite.get m k) ++ (e.1 ∷ values_at q es)) (d.0 refl)
    by false d = refl
