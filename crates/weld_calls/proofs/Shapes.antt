-- The shapes of loops that the calls have: elements mapped, combined, filtered, and merged at keys.
use Rattle.std.proofs.Common.{◌≡◌, ℕ, ◌+◌, ℤ, Bool, true, false, cond, List, [], ◌∷◌, ◌++◌, map, filter, append_assoc, append-nil, ap, sym, refl, ◌∙◌}
use Rattle.weld_data.specs.declared.kind.Kind.{Kind}
use Rattle.weld_data.specs.declared.op.MergeOp.{MergeOp}
use Rattle.weld_data.specs.Operation.{combination, start_of}
use Rattle.weld_data.specs.Value.{Value, number, struct, no_values, and_value}
use Rattle.weld_tree.specs.TypeTree.{TypeTree, scalar, list, total}
use Rattle.weld_tree.specs.ExprTree.{ExprTree}
use Rattle.weld_builders.specs.Outcome.{Outcome, done, fault, stuck, and_then, map_out}
use Rattle.weld_builders.specs.Part.{Part, list_part, total_part, keyed_part, groups_part, combined as combined_number, appended, merge_key, merge_part, result_of}
use Rattle.weld_builders.specs.ValueOrder.{ValueMap}
use Rattle.weld_meaning.specs.Thing.{plain, building}
use Rattle.weld_meaning.specs.Evaluation.{Env, eval}
use Rattle.weld_calls.specs.CallPrograms.{use_of, legs_of, mapped, combined, fresh_builder, merged as merged_tree}
use Rattle.weld_calls.specs.Lists.{vector, each, marked}
use Rattle.weld_calls.specs.Folds.{combined_all, folded, RowsAre, BodySteps}
use Rattle.weld_calls.proofs.Outcomes.{map_out-map_out, map_out-same, map_out-and_then, and_then-same}
use Rattle.weld_calls.proofs.Totals.{total_of, combined_is}
use Rattle.weld_calls.proofs.Groups.{merge_all}
use Rattle.weld_calls.proofs.LoopLaw.{gathered_is}

-- an item that a row has, merged
pub item_step : (o f : Outcome Value) (q : Part) → o ≡ f → and_then o (λ v. map_out building (merge_part q v)) ≡ map_out building (and_then f (merge_part q))
item_step o f q e = ap (λ p. and_then p (λ v. map_out building (merge_part q v))) e ∙ sym (map_out-and_then f (merge_part q) building)

-- ---- items

list_fold : {A : Type 0} (f : A → Outcome Value) (ws : List Value) (xs : List A) → folded (λ q y. and_then (f y) (merge_part q)) (list_part ws) xs ≡ map_out (λ vs. list_part (ws ++ vs)) (each f xs)
list_fold f ws [] = ap (λ vs. done (list_part vs)) (sym (append-nil ws))
list_fold f ws (x ∷ xs) = by (f x) (λ w. list_fold f (ws ++ w ∷ []) xs)
  where
    by : (o : Outcome Value) → ((w : Value) → folded (λ q y. and_then (f y) (merge_part q)) (list_part (ws ++ w ∷ [])) xs ≡ map_out (λ vs. list_part ((ws ++ w ∷ []) ++ vs)) (each f xs)) → and_then (and_then o (merge_part (list_part ws))) (λ q. folded (λ r y. and_then (f y) (merge_part r)) q xs) ≡ map_out (λ vs. list_part (ws ++ vs)) (and_then o (λ y. map_out (λ ys. y ∷ ys) (each f xs)))
    by (done w) h =
        h w ∙ map_out-same (each f xs) _ _ (λ vs. ap list_part (append_assoc ws (w ∷ []) vs))
        ∙ sym (map_out-map_out (λ ys. w ∷ ys) (λ vs. list_part (ws ++ vs)) (each f xs))
    by fault h = refl
    by stuck h = refl

pub mapped_is : {A : Type 0} (legs : List ℕ) (t : TypeTree) (b : ℕ) (e : ExprTree) (env : Env) (rows : Outcome (List A)) (row : A → Value) (f : A → Outcome Value)
    → RowsAre (legs_of legs) env row rows → BodySteps b (b + 1) (b + 2) (merged_tree (use_of b) e) env row (λ q y. and_then (f y) (merge_part q)) → eval (mapped legs t b e) env ≡ map_out plain (and_then rows (λ ys. map_out vector (each f ys)))
mapped_is {A} legs t b e env rows row f over steps =
    gathered_is (legs_of legs) (fresh_builder (list t)) b (b + 1) (b + 2) (merged_tree (use_of b) e) env rows row (list_part []) (λ q y. and_then (f y) (merge_part q)) over refl steps
    ∙ ap (map_out plain) (and_then-same rows _ _ (λ ys. ap (map_out result_of) (list_fold f [] ys) ∙ map_out-map_out list_part result_of (each f ys)))

-- items where their marks are true
abbrev pub marked_step : {A : Type 0} → (A → Value) → Part → A × Bool → Outcome Part
marked_step f q p = cond p.1 (merge_part q (f p.0)) (done q)

pub marked_fold : {A : Type 0} (f : A → Value) (ws : List Value) (ps : List (A × Bool)) → folded (marked_step f) (list_part ws) ps ≡ done (list_part (ws ++ map f (marked ps)))
marked_fold f ws [] = ap (λ vs. done (list_part vs)) (sym (append-nil ws))
marked_fold {A} f ws (p ∷ ps) = by p.1 (λ vs. marked_fold f vs ps)
  where
    by : (b : Bool) → ((vs : List Value) → folded (marked_step f) (list_part vs) ps ≡ done (list_part (vs ++ map f (marked ps)))) → and_then (cond b (merge_part (list_part ws) (f p.0)) (done (list_part ws))) (λ q. folded (marked_step f) q ps) ≡ done (list_part (ws ++ map f (map (λ (r : A × Bool). r.0) (cond b (p ∷ filter (λ (r : A × Bool). r.1) ps) (filter (λ (r : A × Bool). r.1) ps)))))
    by true h = h (ws ++ f p.0 ∷ []) ∙ ap (λ vs. done (list_part vs)) (append_assoc ws (f p.0 ∷ []) (map f (marked ps)))
    by false h = h ws

-- ---- totals

total_fold : {A : Type 0} (op : MergeOp) (k : Kind) (a : ℤ) (g : A → ℤ) (xs : List A) → folded (λ q y. merge_part q (number k (g y))) (total_part op k a) xs ≡ done (total_part op k (combined_all op k a (map g xs)))
total_fold op k a g [] = refl
total_fold op k a g (x ∷ xs) = total_fold op k (combination op k a (g x)) g xs

pub combined_rows : {A : Type 0} (legs : List ℕ) (op : MergeOp) (k : Kind) (b : ℕ) (e : ExprTree) (env : Env) (rows : Outcome (List A)) (row : A → Value) (g : A → ℤ)
    → RowsAre (legs_of legs) env row rows → BodySteps b (b + 1) (b + 2) (merged_tree (use_of b) e) env row (λ q y. merge_part q (number k (g y))) → eval (combined legs (scalar k) op b e) env ≡ map_out plain (map_out (λ ys. number k (total_of op k (map g ys))) rows)
combined_rows {A} legs op k b e env rows row g over steps =
    gathered_is (legs_of legs) (fresh_builder (total (scalar k) op)) b (b + 1) (b + 2) (merged_tree (use_of b) e) env rows row (total_part op k (start_of op k)) (λ q y. merge_part q (number k (g y))) over refl steps
    ∙ ap (map_out plain) (by rows)
  where
    by : (o : Outcome (List A)) → and_then o (λ ys. map_out result_of (folded (λ q y. merge_part q (number k (g y))) (total_part op k (start_of op k)) ys)) ≡ map_out (λ ys. number k (total_of op k (map g ys))) o
    by (done ys) = ap (map_out result_of) (total_fold op k (start_of op k) g ys) ∙ ap (λ x. done (number k x)) (combined_is op k (map g ys))
    by fault = refl
    by stuck = refl

-- ---- keys

pub keyed_fold : {A : Type 0} (op : MergeOp) (k : Kind) (key : A → Value) (g : A → ℤ) (m : ValueMap ℤ) (xs : List A) → folded (λ q y. merge_part q (struct (and_value (key y) (and_value (number k (g y)) no_values)))) (keyed_part op k m) xs ≡ done (keyed_part op k (merge_all (combined_number op k) m (map (λ y. (key y, g y)) xs)))
keyed_fold op k key g m [] = refl
keyed_fold op k key g m (x ∷ xs) = keyed_fold op k key g (merge_key (combined_number op k) m (key x) (g x)) xs

pub groups_fold : {A : Type 0} (key value : A → Value) (m : ValueMap (List Value)) (xs : List A) → folded (λ q y. merge_part q (struct (and_value (key y) (and_value (value y) no_values)))) (groups_part m) xs ≡ done (groups_part (merge_all appended m (map (λ y. (key y, value y ∷ [])) xs)))
groups_fold key value m [] = refl
groups_fold key value m (x ∷ xs) = groups_fold key value (merge_key appended m (key x) (value x ∷ [])) xs
