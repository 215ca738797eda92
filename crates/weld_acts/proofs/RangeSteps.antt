-- A range of rows, one row after another.
use Rattle.std.proofs.Common.{◌≡◌, ℕ, zero, suc, ◌+◌, ◌-◌, ◌<◌, ◌≤◌, List, [], ◌∷◌, take, drop, slice_get, Some, refl, sym, ap, ◌∙◌, subst, arith}
use Rattle.weld_data.specs.Value.{Value, values}
use Rattle.weld_tree.specs.ExprTree.{ExprTree, loop}
use Rattle.weld_tree.specs.HasValue.{HasValue, AllAre}
use Rattle.weld_builders.specs.Outcome.{Outcome, done, fault, and_then}
use Rattle.weld_meaning.specs.Thing.{Thing}
use Rattle.weld_meaning.specs.ThingType.{HasThing}
use Rattle.weld_meaning.specs.Evaluation.{Env, rows_of}
use Rattle.weld_eval.specs.Fit.{IsFit}
use Rattle.weld_eval.proofs.LoopSteps.{row_gives}
use Rattle.weld_eval_plain.specs.Rows.{row_step, rows_from, RowIs, RowsAre, HoldsRow}
use Rattle.weld_acts.specs.Ranges.{range_over, HoldsRange}

-- a run over a range has come so far: what is left of the range makes the whole from the builder
pub record RunsIn (n : ExprTree) (env : Env) (lists : List (List Value)) (from to : ℕ) (start : Thing) (i : ℕ) (s : Thing) : Type 0 where
  pub holds : HoldsRange n env lists i to s
  pub same : range_over n env lists from to start ≡ range_over n env lists i to s

pub range_start : (n : ExprTree) (env : Env) (lists : List (List Value)) (from to : ℕ) (s : Thing) → HoldsRange n env lists from to s → RunsIn n env lists from to s from s
range_start n env lists from to s h = record { holds = h; same = refl }

-- ---- one row

row_has : (n : ExprTree) (env : Env) (h : IsFit n env) (rows : List Value) (i : ℕ) (v : Value) → RowsAre n env h rows → slice_get rows i ≡ Some v → RowIs n env h v
row_has (loop a ls e b m x f) env h rows i v all q = among rows i all q
  where
    among : (rows : List Value) (i : ℕ) → AllAre (HasValue h.typed.1) (values rows) → slice_get rows i ≡ Some v → HasValue h.typed.1 v
    among [] i all q = let no : ⊥ = cc in absurd no
    among (w ∷ ws) zero all q = let same : w ≡ v = cc in subst (HasValue h.typed.1) same all.0
    among (w ∷ ws) (suc i) all q = among ws i all.1 q
row_has _ env h rows i v all q = absurd all

next_has : (n : ExprTree) (env : Env) (h : IsFit n env) (i : ℕ) (v : Value) (s t : Thing) → HasThing s h.answer → RowIs n env h v → row_step n env (i, v) s ≡ done t → HasThing t h.answer
next_has (loop a ls e b m x f) env h i v s t hs hv q = row_gives a ls e b m x f env h i v s t hs hv q
next_has _ env h i v s t hs hv q = absurd hv

drop_row : (rows : List Value) (i : ℕ) (v : Value) → slice_get rows i ≡ Some v → drop i rows ≡ v ∷ drop (i + 1) rows
drop_row [] i v q = let no : ⊥ = cc in absurd no
drop_row (w ∷ ws) zero v q = let same : w ≡ v = cc in ap (λ u. u ∷ ws) same
drop_row (w ∷ ws) (suc i) v q = let more : suc (i + 1) ≡ suc i + 1 = omega arith in drop_row ws i v q ∙ ap (λ n. v ∷ drop n (w ∷ ws)) more

range_row_is : (n : ExprTree) (env : Env) (rows : List Value) (i to : ℕ) (v : Value) (s : Thing) → i < to → slice_get rows i ≡ Some v
    → rows_from n env i (take (to - i) (drop i rows)) s ≡ and_then (row_step n env (i, v) s) (λ t. rows_from n env (i + 1) (take (to - (i + 1)) (drop (i + 1) rows)) t)
range_row_is n env rows i to v s h q =
    let more : suc i ≡ i + 1 = omega arith in
    let left : to - i ≡ suc (to - (i + 1)) = omega arith in
    ap (λ l. rows_from n env i (take (to - i) l) s) (drop_row rows i v q)
    ∙ ap (λ k. rows_from n env i (take k (v ∷ drop (i + 1) rows)) s) left
    ∙ ap (λ k. and_then (row_step n env (i, v) s) (λ t. rows_from n env k (take (to - (i + 1)) (drop (i + 1) rows)) t)) more

pub range_is : (n : ExprTree) (env : Env) (lists : List (List Value)) (rows : List Value) (from to : ℕ) (s : Thing) → rows_of lists ≡ done rows → range_over n env lists from to s ≡ rows_from n env from (take (to - from) (drop from rows)) s
range_is n env lists rows from to s q = ap (λ o. and_then o (λ l. rows_from n env from (take (to - from) (drop from l)) s)) q

pub one_of_range : (n : ExprTree) (env : Env) (lists : List (List Value)) (rows : List Value) (i to : ℕ) (v : Value) (s : Thing) → rows_of lists ≡ done rows → i < to → slice_get rows i ≡ Some v
    → range_over n env lists i to s ≡ and_then (row_step n env (i, v) s) (λ t. range_over n env lists (i + 1) to t)
one_of_range n env lists rows i to v s are h q =
    range_is n env lists rows i to s are ∙ range_row_is n env rows i to v s h q
    ∙ ap (λ (o : Outcome (List Value)). and_then (row_step n env (i, v) s) (λ t. and_then o (λ l. rows_from n env (i + 1) (take (to - (i + 1)) (drop (i + 1) l)) t))) (sym are)

-- ---- row after row

pub range_row : (n : ExprTree) (env : Env) (lists : List (List Value)) (from to : ℕ) (start : Thing) (i : ℕ) (s : Thing) (v : Value) → (h : RunsIn n env lists from to start i s) → slice_get h.holds.rows i ≡ Some v → HoldsRow n env s v
range_row n env lists from to start i s v h q = record { fit = h.holds.fit; has = h.holds.has; row = row_has n env h.holds.fit h.holds.rows i v h.holds.rows_have q }

pub range_on : (n : ExprTree) (env : Env) (lists : List (List Value)) (from to : ℕ) (start : Thing) (i : ℕ) (s t : Thing) (v : Value) → (h : RunsIn n env lists from to start i s) → i < to → slice_get h.holds.rows i ≡ Some v
    → row_step n env (i, v) s ≡ done t → RunsIn n env lists from to start (i + 1) t
range_on n env lists from to start i s t v h less q r = record {
  holds = record {
    fit = h.holds.fit;
    has = next_has n env h.holds.fit i v s t h.holds.has (row_has n env h.holds.fit h.holds.rows i v h.holds.rows_have q) r;
    rows = h.holds.rows;
    are = h.holds.are;
    rows_have = h.holds.rows_have;
    ordered = omega arith;
    within = h.holds.within;
  };
  same = h.same ∙ one_of_range n env lists h.holds.rows i to v s h.holds.are less q ∙ ap (λ o. and_then o (λ u. range_over n env lists (i + 1) to u)) r;
}

pub range_fault : (n : ExprTree) (env : Env) (lists : List (List Value)) (from to : ℕ) (start : Thing) (i : ℕ) (s : Thing) (v : Value) → (h : RunsIn n env lists from to start i s) → i < to → slice_get h.holds.rows i ≡ Some v
    → row_step n env (i, v) s ≡ fault → range_over n env lists from to start ≡ fault
range_fault n env lists from to start i s v h less q r =
    h.same ∙ one_of_range n env lists h.holds.rows i to v s h.holds.are less q ∙ ap (λ o. and_then o (λ u. range_over n env lists (i + 1) to u)) r

pub none_left : (n : ExprTree) (env : Env) (lists : List (List Value)) (rows : List Value) (i : ℕ) (s : Thing) → rows_of lists ≡ done rows → range_over n env lists i i s ≡ done s
none_left n env lists rows i s are = let none : i - i ≡ 0 = omega arith in range_is n env lists rows i i s are ∙ ap (λ k. rows_from n env i (take k (drop i rows)) s) none

pub range_ends : (n : ExprTree) (env : Env) (lists : List (List Value)) (from to : ℕ) (start : Thing) (i : ℕ) (s : Thing) → (h : RunsIn n env lists from to start i s) → to ≤ i → range_over n env lists from to start ≡ done s
range_ends n env lists from to start i s h less =
    let o : i ≤ to = h.holds.ordered in
    let same : to ≡ i = omega arith in
    h.same ∙ ap (λ k. range_over n env lists i k s) same ∙ none_left n env lists h.holds.rows i s h.holds.are
