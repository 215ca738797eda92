-- The dots of rows, one after another.
use Rattle.std.proofs.Common.{◌≡◌, ℕ, zero, suc, ◌+◌, ◌≤◌, ℤ, List, [], ◌∷◌, ◌++◌, drop, length, slice_get, Option, Some, None, IfSome, append_assoc, append-nil, ap, sym, refl, subst, ◌∙◌, arith}
use Rattle.weld_data.specs.declared.kind.Kind.{Kind}
use Rattle.weld_data.specs.Value.{Value, number, list, struct, dict, values, values-list_of_values}
use Rattle.weld_tree.specs.TypeTree.{TypeTree, vec}
use Rattle.weld_tree.specs.HasValue.{HasValue, AllAre}
use Rattle.weld_builders.specs.Outcome.{Outcome, done, fault, and_then, map_out}
use Rattle.weld_eval.specs.Fits.{IsList}
use Rattle.weld_calls.specs.Lists.{items, numbers, number_vector, each, dot}
use Rattle.weld_data.specs.Kind.{InRange}
use Rattle.weld_eager.specs.Reading.{IsFaultOr}
use Rattle.weld_calls.specs.CallMeaning.{rows_dot_meaning}
use Rattle.weld_calls.proofs.Outcomes.{map_out-map_out, map_out-same}

pub dot_as : (k : Kind) (xs us ys : List ℤ) (z : ℤ) → xs ≡ us → dot k xs ys ≡ done z → dot k us ys ≡ done z
dot_as k xs us ys z e h = ap (λ zs. dot k zs ys) (sym e) ∙ h

-- ---- typed rows

pub vectors_are_lists : (t : TypeTree) (v : Value) → HasValue (vec t) v → IsList v
vectors_are_lists t (number m x) h = h
vectors_are_lists t (list vs) h = tt
vectors_are_lists t (struct vs) h = h
vectors_are_lists t (dict es) h = h

typed_items : (t : TypeTree) (v : Value) → HasValue (vec t) v → AllAre (HasValue t) (values (items v))
typed_items t (number m x) h = absurd h
typed_items t (list vs) h = subst (AllAre (HasValue t)) (sym (values-list_of_values vs)) h
typed_items t (struct vs) h = absurd h
typed_items t (dict es) h = absurd h

pub typed_column : (t : TypeTree) (v : Value) (cs : List Value) → HasValue (vec t) v → items v ≡ cs → AllAre (HasValue t) (values cs)
typed_column t v cs h e = subst (λ ws. AllAre (HasValue t) (values ws)) e (typed_items t v h)

pub typed_at : (t : TypeTree) (vs : List Value) (i : ℕ) (v : Value) → AllAre (HasValue t) (values vs) → slice_get vs i ≡ Some v → HasValue t v
typed_at t [] i v h e = let no : ⊥ = cc in absurd no
typed_at t (u ∷ vs) zero v h e = let same : u ≡ v = cc in subst (HasValue t) same h.0
typed_at t (u ∷ vs) (suc i) v h e = typed_at t vs i v h.1 e

-- ---- one row after another

abbrev pub row_dots : Kind → List ℤ → List Value → Outcome (List ℤ)
row_dots k ws vs = each (λ row. dot k (numbers row) ws) vs

abbrev pub DotsSoFar : Kind → List ℤ → List Value → ℕ → List ℤ → Type 0
DotsSoFar k ws vs i zs = row_dots k ws vs ≡ map_out (λ rest. zs ++ rest) (row_dots k ws (drop i vs))

values_left : (vs : List Value) (i : ℕ) (v : Value) → slice_get vs i ≡ Some v → drop i vs ≡ v ∷ drop (i + 1) vs
values_left [] i v e = let no : ⊥ = cc in absurd no
values_left (u ∷ vs) zero v e = let same : u ≡ v = cc in ap (λ w. w ∷ vs) same
values_left (u ∷ vs) (suc i) v e =
    let more : suc (i + 1) ≡ suc i + 1 = omega arith in values_left vs i v e ∙ ap (λ n. v ∷ drop n (u ∷ vs)) more

pub dots_more : (k : Kind) (ws : List ℤ) (vs : List Value) (i : ℕ) (v : Value) (z : ℤ) (zs new : List ℤ) → slice_get vs i ≡ Some v → dot k (numbers v) ws ≡ done z → new ≡ zs ++ z ∷ [] → DotsSoFar k ws vs i zs → DotsSoFar k ws vs (i + 1) new
dots_more k ws vs i v z zs new e h is so =
    so ∙ ap (λ us. map_out (λ rest. zs ++ rest) (row_dots k ws us)) (values_left vs i v e)
    ∙ ap (λ o. map_out (λ rest. zs ++ rest) (and_then o (λ x. map_out (λ xs. x ∷ xs) (row_dots k ws (drop (i + 1) vs))))) h
    ∙ map_out-map_out (λ r. z ∷ r) (λ rest. zs ++ rest) (row_dots k ws (drop (i + 1) vs))
    ∙ map_out-same (row_dots k ws (drop (i + 1) vs)) _ _ (λ rest. sym (append_assoc zs (z ∷ []) rest) ∙ ap (λ l. l ++ rest) (sym is))

pub dots_stop : (k : Kind) (ws : List ℤ) (vs : List Value) (i : ℕ) (v : Value) (zs : List ℤ) → slice_get vs i ≡ Some v → dot k (numbers v) ws ≡ fault → DotsSoFar k ws vs i zs → row_dots k ws vs ≡ fault
dots_stop k ws vs i v zs e h so =
    so ∙ ap (λ us. map_out (λ rest. zs ++ rest) (row_dots k ws us)) (values_left vs i v e)
    ∙ ap (λ o. map_out (λ rest. zs ++ rest) (and_then o (λ x. map_out (λ xs. x ∷ xs) (row_dots k ws (drop (i + 1) vs))))) h

pub dots_all : (k : Kind) (ws : List ℤ) (vs : List Value) (i : ℕ) (zs : List ℤ) → length vs ≤ i → DotsSoFar k ws vs i zs → row_dots k ws vs ≡ done zs
dots_all k ws vs i zs h so = so ∙ ap (λ us. map_out (λ rest. zs ++ rest) (row_dots k ws us)) (past vs i h) ∙ ap done (append-nil zs)
  where
    past : (xs : List Value) (i : ℕ) → length xs ≤ i → drop i xs ≡ []
    past [] zero h = refl
    past [] (suc i) h = refl
    past (x ∷ xs) zero h = absurd (omega (arith, h))
    past (x ∷ xs) (suc i) h = past xs i (omega (arith, h))

-- ---- the answer

pub rows_answer : (k : Kind) (m w : Value) (vs : List Value) (ws zs : List ℤ) (v : Value) → items m ≡ vs → ws ≡ numbers w → row_dots k ws vs ≡ done zs → v ≡ number_vector k zs → rows_dot_meaning k m w ≡ done v
rows_answer k m w vs ws zs v e f h is =
    (λ i. map_out (number_vector k) (row_dots k (sym f i) (e i))) ∙ ap (map_out (number_vector k)) h ∙ ap done (sym is)

pub rows_fault : (k : Kind) (m w : Value) (vs : List Value) (ws : List ℤ) → items m ≡ vs → ws ≡ numbers w → row_dots k ws vs ≡ fault → rows_dot_meaning k m w ≡ fault
rows_fault k m w vs ws e f h = (λ i. map_out (number_vector k) (row_dots k (sym f i) (e i))) ∙ ap (map_out (number_vector k)) h

-- ---- what a row answers

pub some_answer : (r : Option ℤ) (z : ℤ) (o : Outcome ℤ) → r ≡ Some z → IsFaultOr r (λ (x : ℤ). x) o → o ≡ done z
some_answer r z o e h = subst (λ s. IsFaultOr s (λ (x : ℤ). x) o) e h

pub none_answer : (r : Option ℤ) (o : Outcome ℤ) → r ≡ None → IsFaultOr r (λ (x : ℤ). x) o → o ≡ fault
none_answer r o e h = subst (λ s. IsFaultOr s (λ (x : ℤ). x) o) e h

pub some_in_range : (k : Kind) (r : Option ℤ) (z : ℤ) → r ≡ Some z → IfSome r (InRange k) → InRange k z
some_in_range k r z e h = subst (λ s. IfSome s (InRange k)) e h
