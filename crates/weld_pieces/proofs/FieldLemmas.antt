-- The two last values of a list are its two.
use Rattle.std.proofs.Common.{◌≡◌, List, [], ◌∷◌, ◌++◌, map, ap, sym, subst, refl, ◌∙◌}
use Rattle.weld_data.specs.Value.{Value, struct, and_value, no_values, values}
use Rattle.weld_data.specs.View.{view_val}
use Rattle.weld_data.specs.declared.value.Val.{Val}
use Rattle.weld_data.specs.declared.value.Val.TheVariants as val
use Rattle.weld_pieces.specs.Fields.{IsOfTwoFields}

abbrev two_behind : List Val → Val → Val → Value
two_behind zs a b = struct (values (map view_val ((zs ++ a ∷ []) ++ b ∷ [])))

none_before : (zs : List Val) (a b : Val) → IsOfTwoFields (two_behind zs a b) → two_behind zs a b ≡ struct (and_value (view_val a) (and_value (view_val b) no_values))
none_before [] a b h = refl
none_before (z ∷ []) a b h = absurd h
none_before (z ∷ y ∷ []) a b h = absurd h
none_before (z ∷ y ∷ x ∷ zs) a b h = absurd h

pub two_popped : (item : Val) (fields : List Value) (xs ys zs : List Val) (a b : Val) → IsOfTwoFields (view_val item) → item ≡ val.Struct fields → map view_val xs ≡ fields → xs ≡ ys ++ b ∷ [] → ys ≡ zs ++ a ∷ []
    → view_val item ≡ struct (and_value (view_val a) (and_value (view_val b) no_values))
two_popped item fields xs ys zs a b h is views second first =
    let e : view_val item ≡ two_behind zs a b = ap view_val is ∙ ap (λ vs. struct (values vs)) (sym views ∙ ap (map view_val) (second ∙ ap (λ vs. vs ++ b ∷ []) first)) in
    e ∙ none_before zs a b (subst IsOfTwoFields e h)
