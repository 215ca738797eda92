-- The rows of loops over one, two or three vectors.
use Rattle.std.proofs.Common.{◌≡◌, ℕ, List, [], ◌∷◌, map, Some, ap, sym, refl, ◌∙◌}
use Rattle.weld_data.specs.Value.{Value, struct, Values, no_values, and_value}
use Rattle.weld_builders.specs.Outcome.{Outcome, done, and_then, map_out}
use Rattle.weld_tree.specs.ExprTree.{whole}
use Rattle.weld_meaning.specs.Environment.{look_for}
use Rattle.weld_meaning.specs.Thing.{plain}
use Rattle.weld_meaning.specs.Evaluation.{Env, value_out, found, elements_of, join_rows, zipped, rows_of, eval_leg}
use Rattle.weld_calls.specs.CallPrograms.{use_of, legs_of}
use Rattle.weld_calls.specs.Lists.{paired}
use Rattle.weld_calls.specs.Folds.{RowsAre}
use Rattle.weld_calls.proofs.Outcomes.{map_out-map_out, and_then-map_out, map_out-and_then, and_then-same, map_out-same}
use Rattle.weld_calls.proofs.Eaches.{map-map}

abbrev pub pair_row : {A B : Type 0} → (A → Value) → (B → Value) → A × B → Value
pair_row f g p = struct (and_value (f p.0) (and_value (g p.1) no_values))

abbrev pub triple_row : {A B C : Type 0} → (A → Value) → (B → Value) → (C → Value) → A × (B × C) → Value
triple_row f g h p = struct (and_value (f p.0) (and_value (g p.1.0) (and_value (h p.1.1) no_values)))

-- the name stands for a vector with these elements
pub record Stands {A : Type 0} (env : Env) (s : ℕ) (f : A → Value) (xs : List A) : Type 0 where
  pub value : Value
  pub found : look_for s env ≡ Some (plain value)
  pub elements : elements_of value ≡ done (map f xs)

leg_is : {A : Type 0} {env : Env} {s : ℕ} {f : A → Value} {xs : List A} → Stands env s f xs → eval_leg (whole (use_of s)) env ≡ done (map f xs)
leg_is h = ap (λ o. and_then (value_out (found o)) elements_of) h.found ∙ h.elements

pub one_leg : {A : Type 0} (env : Env) (s : ℕ) {f : A → Value} {xs : List A} → Stands env s f xs → RowsAre (legs_of (s ∷ [])) env f (done xs)
one_leg env s h = ap (λ o. and_then (and_then o (λ vs. done (vs ∷ []))) rows_of) (leg_is h)

-- ---- two and more

join_is : {A B : Type 0} (f : A → Value) (r : B → Values) (xs : List A) (ys : List B) → join_rows (map f xs) (map r ys) ≡ map_out (map (λ p. and_value (f p.0) (r p.1))) (paired xs ys)
join_is f r [] [] = refl
join_is f r [] (y ∷ ys) = refl
join_is f r (x ∷ xs) [] = refl
join_is f r (x ∷ xs) (y ∷ ys) =
    ap (map_out (λ t. and_value (f x) (r y) ∷ t)) (join_is f r xs ys)
    ∙ map_out-map_out (map (λ p. and_value (f p.0) (r p.1))) (λ t. and_value (f x) (r y) ∷ t) (paired xs ys)
    ∙ sym (map_out-map_out (λ ps. (x, y) ∷ ps) (map (λ p. and_value (f p.0) (r p.1))) (paired xs ys))

zipped_two : {A B : Type 0} (f : A → Value) (g : B → Value) (xs : List A) (ys : List B) → zipped (map f xs ∷ map g ys ∷ []) ≡ map_out (map (λ p. and_value (f p.0) (and_value (g p.1) no_values))) (paired xs ys)
zipped_two f g xs ys =
    ap (join_rows (map f xs)) (map-map g (λ v. and_value v no_values) ys) ∙ join_is f (λ y. and_value (g y) no_values) xs ys

structs : {A : Type 0} (r : A → Values) (o : Outcome (List A)) → map_out (map struct) (map_out (map r) o) ≡ map_out (map (λ y. struct (r y))) o
structs r o = map_out-map_out (map r) (map struct) o ∙ map_out-same o _ _ (map-map r struct)

pub two_legs : {A B : Type 0} (env : Env) (s t : ℕ) {f : A → Value} {g : B → Value} {xs : List A} {ys : List B} → Stands env s f xs → Stands env t g ys → RowsAre (legs_of (s ∷ t ∷ [])) env (pair_row f g) (paired xs ys)
two_legs env s t {f = f} {g = g} {xs = xs} {ys = ys} h k =
    (λ i. and_then (and_then (leg_is h i) (λ vs. map_out (λ rest. vs ∷ rest) (and_then (leg_is k i) (λ ws. done (ws ∷ []))))) rows_of)
    ∙ ap (map_out (map struct)) (zipped_two f g xs ys) ∙ structs _ (paired xs ys)

zipped_three : {A B C : Type 0} (f : A → Value) (g : B → Value) (h : C → Value) (xs : List A) (ys : List B) (zs : List C) → zipped (map f xs ∷ map g ys ∷ map h zs ∷ []) ≡ map_out (map (λ p. and_value (f p.0) (and_value (g p.1.0) (and_value (h p.1.1) no_values)))) (and_then (paired ys zs) (paired xs))
zipped_three f g h xs ys zs =
    ap (λ o. and_then o (join_rows (map f xs))) (zipped_two g h ys zs)
    ∙ and_then-map_out (paired ys zs) (map (λ p. and_value (g p.0) (and_value (h p.1) no_values))) (join_rows (map f xs))
    ∙ and_then-same (paired ys zs) _ _ (join_is f (λ p. and_value (g p.0) (and_value (h p.1) no_values)) xs)
    ∙ sym (map_out-and_then (paired ys zs) (paired xs) (map (λ p. and_value (f p.0) (and_value (g p.1.0) (and_value (h p.1.1) no_values)))))

pub three_legs : {A B C : Type 0} (env : Env) (s t u : ℕ) {f : A → Value} {g : B → Value} {h : C → Value} {xs : List A} {ys : List B} {zs : List C} → Stands env s f xs → Stands env t g ys → Stands env u h zs → RowsAre (legs_of (s ∷ t ∷ u ∷ [])) env (triple_row f g h) (and_then (paired ys zs) (paired xs))
three_legs env s t u {f = f} {g = g} {h = h} {xs = xs} {ys = ys} {zs = zs} a b c =
    (λ i. and_then (and_then (leg_is a i) (λ vs. map_out (λ rest. vs ∷ rest) (and_then (leg_is b i) (λ ws. map_out (λ rest. ws ∷ rest) (and_then (leg_is c i) (λ us. done (us ∷ []))))))) rows_of)
    ∙ ap (map_out (map struct)) (zipped_three f g h xs ys zs) ∙ structs _ (and_then (paired ys zs) (paired xs))
