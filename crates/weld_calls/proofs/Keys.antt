-- What a map has at a key that is made from keys, or from pairs.
use Rattle.std.proofs.Common.{◌≡◌, ◌≢◌, suc, Some, None, List, [], ◌∷◌, map, filter, length, Bool, true, false, ◌||◌, cond, ap, refl, ◌∙◌, arith}
use Rattle.std.specs.List.{list_any}
use Rattle.std.specs.FinMap as finite
use Rattle.weld_data.specs.Value.{Value}
use Rattle.weld_data.specs.Lookup.{same_value}
use Rattle.weld_data.proofs.Lookups.{Decides-same_value}
use Rattle.weld_builders.specs.Outcome.{Outcome, done, fault, stuck, map_out}
use Rattle.weld_builders.specs.ValueOrder.{value_cmp}
use Rattle.weld_builders.proofs.Order.{value_cmp_total}
use Rattle.weld_builders.proofs.GroupOrder.{ties_are_equal}
use Rattle.weld_calls.specs.Lists.{paired, beside, by_keys, grouped, of_some}

-- ---- a map by its keys

abbrev has : Value → List Value → Bool
has q keys = list_any (λ k. same_value k q) keys

pub get-by_keys : {A : Type 0} (at : Value → A) (keys : List Value) (q : Value) → finite.get (by_keys at keys) q ≡ cond (has q keys) (Some (at q)) None
get-by_keys at [] q = finite.get-empty value_cmp q
get-by_keys at (k ∷ keys) q =
    finite.get-insert value_cmp_total (by_keys at keys) k (at k) q
    ∙ ap (λ b. cond b (Some (at k)) (finite.get (by_keys at keys) q)) (ties_are_equal q k)
    ∙ by (same_value k q) (λ e. (Decides-same_value k q).0 e) (get-by_keys at keys q)
  where
    by : (b : Bool) → (b ≡ true → k ≡ q) → finite.get (by_keys at keys) q ≡ cond (has q keys) (Some (at q)) None → cond b (Some (at k)) (finite.get (by_keys at keys) q) ≡ cond (b || has q keys) (Some (at q)) None
    by true e h = ap (λ x. Some (at x)) (e refl)
    by false e h = h

pub keys_are_those : {X Y : Type 0} (g : List X → Y) (ps : List (Value × X)) (q : Value) → cond (has q (map (λ (p : Value × X). p.0) ps)) (Some (g (beside q ps))) None ≡ of_some g (beside q ps)
keys_are_those g [] q = refl
keys_are_those {X} g (p ∷ ps) q = by (same_value p.0 q) (keys_are_those g ps q)
  where
    by : (b : Bool) → cond (has q (map (λ (r : Value × X). r.0) ps)) (Some (g (beside q ps))) None ≡ of_some g (beside q ps) → cond (b || has q (map (λ (r : Value × X). r.0) ps)) (Some (g (map (λ (r : Value × X). r.1) (cond b (p ∷ filter (λ (r : Value × X). same_value r.0 q) ps) (filter (λ (r : Value × X). same_value r.0 q) ps))))) None
        ≡ of_some g (map (λ (r : Value × X). r.1) (cond b (p ∷ filter (λ (r : Value × X). same_value r.0 q) ps) (filter (λ (r : Value × X). same_value r.0 q) ps)))
    by true h = refl
    by false h = h

pub rule_at : {X Y : Type 0} (rule : List X → Y) (ps : List (Value × X)) (q : Value) → finite.get (grouped rule ps) q ≡ of_some rule (beside q ps)
rule_at {X} rule ps q = get-by_keys (λ key. rule (beside key ps)) (map (λ (p : Value × X). p.0) ps) q ∙ keys_are_those rule ps q

-- ---- lists side by side

not_done : {A : Type 0} {x : A} → done x ≡ fault → ⊥
not_done e = cc

later_fault : {A B : Type 0} (f : A → B) (o : Outcome A) → map_out f o ≡ fault → o ≡ fault
later_fault f (done x) e = absurd (not_done e)
later_fault f fault e = refl
later_fault f stuck e = let no : ⊥ = cc in absurd no

pub fault_apart : {A B : Type 0} (xs : List A) (ys : List B) → paired xs ys ≡ fault → length xs ≢ length ys
fault_apart [] [] e = absurd (not_done e)
fault_apart [] (y ∷ ys) e = λ l. omega (arith, l)
fault_apart (x ∷ xs) [] e = λ l. omega (arith, l)
fault_apart (x ∷ xs) (y ∷ ys) e =
    let ne = fault_apart xs ys (later_fault (λ ps. (x, y) ∷ ps) (paired xs ys) e) in λ l. ne (omega (arith, l))

pub apart_fault : {A B : Type 0} (xs : List A) (ys : List B) → length xs ≢ length ys → paired xs ys ≡ fault
apart_fault [] [] ne = absurd (ne refl)
apart_fault [] (y ∷ ys) ne = refl
apart_fault (x ∷ xs) [] ne = refl
apart_fault (x ∷ xs) (y ∷ ys) ne = ap (map_out (λ ps. (x, y) ∷ ps)) (apart_fault xs ys (λ e. ne (ap suc e)))
