-- What is known of a loop that is run is known of its legs.
use Rattle.std.proofs.Common.{◌≡◌, Bool, ℕ, ◌+◌, ◌<◌, ◌≤◌, List, [], ◌∷◌, zero, suc, length, drop, map, get_or, Option, Some, None, refl, sym, ap, ◌∙◌, subst, arith}
use Rattle.std.specs.Borrow.{Bor}
use Rattle.weld_data.specs.declared.value.Column.{Column}
use Rattle.weld_data.specs.Value.{Value, list_of_values-values}
use Rattle.weld_data.specs.View.{view_column}
use Rattle.weld_tree.specs.declared.expr.Leg.{Leg}
use Rattle.weld_tree.specs.ExprFalls.{leg_nodes, legs_nodes}
use Rattle.weld_tree.specs.ExprTree.{ExprTree, LegTree, whole, strided, pack_legs}
use Rattle.weld_tree.specs.ExprView.{view_leg}
use Rattle.weld_builders.specs.Outcome.{done, and_then, map_out}
use Rattle.weld_meaning.specs.Evaluation.{Env, eval, eval_legs, value_out, elements_of}
use Rattle.weld_eval.specs.Fit.{IsFit, LegsAreFit}
use Rattle.weld_eval_plain.proofs.Legs.{whole_fits, vector_fits, start_fits, end_fits, stride_fits}
use Rattle.weld_eval_plain.proofs.Parts.{leg_fits, legs_rest_fit}
use Rattle.weld_acts.proofs.Direct.{direct_leg_at, direct_legs_after, direct_whole, direct_vector, direct_start, direct_end, direct_stride}
use Rattle.weld_rows.specs.Lent.{LendsVector, LendsLeg}
use Rattle.weld_rows.specs.Runs.{Runs, LegRuns, LegsRun}

pub leg_runs : {d : Bool} (ls : List Leg) (env : Env) (i : ℕ) (l : Leg) → i < length ls → l ≡ get_or ls i l → LegsRun d (pack_legs (map view_leg (drop i ls))) env → LegRuns d (view_leg l) env
leg_runs ls env i l h is k = record { fit = leg_fits ls env i l h is k.fit; direct = λ t. direct_leg_at ls i l h is (k.direct t) }

pub legs_rest_run : {d : Bool} (ls : List Leg) (env : Env) (i : ℕ) (l : Leg) → i < length ls → l ≡ get_or ls i l → LegsRun d (pack_legs (map view_leg (drop i ls))) env → LegsRun d (pack_legs (map view_leg (drop (i + 1) ls))) env
legs_rest_run ls env i l h is k = record { fit = legs_rest_fit ls env i l h is k.fit; direct = λ t. direct_legs_after ls i l h is (k.direct t) }

pub whole_runs : {d : Bool} (e : ExprTree) (env : Env) (l : LegTree) → l ≡ whole e → LegRuns d l env → Runs d e env
whole_runs e env l is h = record { fit = whole_fits e env l is h.fit; direct = λ t. direct_whole e l is (h.direct t) }

pub strided_runs : {d : Bool} (e f g i : ExprTree) (env : Env) (l : LegTree) → l ≡ strided e f g i → LegRuns d l env → LegRuns d (strided e f g i) env
strided_runs {d} e f g i env l is h = subst (λ k. LegRuns d k env) is h

pub vector_runs : {d : Bool} (e f g i : ExprTree) (env : Env) → LegRuns d (strided e f g i) env → Runs d e env
vector_runs e f g i env h = record { fit = vector_fits e f g i env (strided e f g i) refl h.fit; direct = λ t. direct_vector e f g i (strided e f g i) refl (h.direct t) }

pub start_runs : {d : Bool} (e f g i : ExprTree) (env : Env) → LegRuns d (strided e f g i) env → Runs d f env
start_runs e f g i env h = record { fit = start_fits e f g i env (strided e f g i) refl h.fit; direct = λ t. direct_start e f g i (strided e f g i) refl (h.direct t) }

pub end_runs : {d : Bool} (e f g i : ExprTree) (env : Env) → LegRuns d (strided e f g i) env → Runs d g env
end_runs e f g i env h = record { fit = end_fits e f g i env (strided e f g i) refl h.fit; direct = λ t. direct_end e f g i (strided e f g i) refl (h.direct t) }

pub stride_runs : {d : Bool} (e f g i : ExprTree) (env : Env) → LegRuns d (strided e f g i) env → Runs d i env
stride_runs e f g i env h = record { fit = stride_fits e f g i env (strided e f g i) refl h.fit; direct = λ t. direct_stride e f g i (strided e f g i) refl (h.direct t) }

-- ---- how many nodes there are

under : (ls : List Leg) (i : ℕ) (d : Leg) → i < length ls → leg_nodes (view_leg (get_or ls i d)) ≤ legs_nodes (pack_legs (map view_leg ls))
under [] i d h = absurd (omega arith)
under (l ∷ ls) zero d h = omega arith
under (l ∷ ls) (suc i) d h = let r : leg_nodes (view_leg (get_or ls i d)) ≤ legs_nodes (pack_legs (map view_leg ls)) = under ls i d (omega arith) in omega arith

pub leg_less : (ls : List Leg) (ms : List LegTree) (i : ℕ) (l : Leg) → map view_leg ls ≡ ms → i < length ls → l ≡ get_or ls i l → leg_nodes (view_leg l) ≤ legs_nodes (pack_legs ms)
leg_less ls ms i l same h is =
    let r : leg_nodes (view_leg (get_or ls i l)) ≤ legs_nodes (pack_legs (map view_leg ls)) = under ls i l h in
    let s : leg_nodes (view_leg l) ≤ legs_nodes (pack_legs (map view_leg ls)) = subst (λ d. leg_nodes (view_leg d) ≤ legs_nodes (pack_legs (map view_leg ls))) (sym is) r in
    subst (λ k. leg_nodes (view_leg l) ≤ legs_nodes (pack_legs k)) same s

-- ---- one leg alone

only : (ls : List Leg) (l : Leg) → length ls ≡ 1 → l ≡ get_or ls 0 l → ls ≡ l ∷ []
only [] l one is = absurd (omega (arith, one))
only (k ∷ []) l one is = ap (λ m. m ∷ []) (sym is)
only (k ∷ m ∷ ls) l one is = absurd (omega (arith, one))

pub lone_fits : (ls : List Leg) (e : ExprTree) (env : Env) (l : Leg) → length ls ≡ 1 → l ≡ get_or ls 0 l → view_leg l ≡ whole e → LegsAreFit (pack_legs (map view_leg ls)) env → IsFit e env
lone_fits ls e env l one at is h = whole_fits e env (view_leg l) is (leg_fits ls env 0 l (omega (arith, one)) at h)

lone_is : (ls : List Leg) (e : ExprTree) (env : Env) (l : Leg) (vs : List Value) → length ls ≡ 1 → l ≡ get_or ls 0 l → view_leg l ≡ whole e → and_then (value_out (eval e env)) elements_of ≡ done vs → eval_legs (pack_legs (map view_leg ls)) env ≡ done (vs ∷ [])
lone_is ls e env l vs one at is q =
    ap (λ k. eval_legs (pack_legs (map view_leg k)) env) (only ls l one at)
    ∙ ap (λ m. eval_legs (pack_legs (m ∷ [])) env) is
    ∙ ap (λ o. and_then o (λ us. map_out (λ rest. us ∷ rest) (eval_legs (pack_legs []) env))) q

pub lone_lends : (r : Option (Bor Column)) (ls : List Leg) (e : ExprTree) (env : Env) (l : Leg) → length ls ≡ 1 → l ≡ get_or ls 0 l → view_leg l ≡ whole e → LendsVector r (eval e env) → LendsLeg r (eval_legs (pack_legs (map view_leg ls)) env)
lone_lends None ls e env l one at is h = tt
lone_lends (Some c) ls e env l one at is h = lone_is ls e env l (view_column c.now) one at is (ap (λ o. and_then (value_out o) elements_of) h ∙ ap done (list_of_values-values (view_column c.now)))
