-- What is known of a `select` between numbers is known of its parts.
use Rattle.std.proofs.Common.{◌≡◌, Bool, true, false, if◌then◌else◌, sym, ap, ◌∙◌, subst}
use Rattle.weld_data.specs.Value.{Value}
use Rattle.weld_tree.specs.ExprTree.{ExprTree, At, three, select}
use Rattle.weld_builders.specs.Outcome.{done, fault, and_then, map_out}
use Rattle.weld_meaning.specs.Thing.{plain}
use Rattle.weld_meaning.specs.ThingType.{HasThing}
use Rattle.weld_meaning.specs.Typing.{truth_type}
use Rattle.weld_meaning.specs.Evaluation.{Env, eval, three_thing, truth_of}
use Rattle.weld_eval.specs.Fits.{IsTruth}
use Rattle.weld_eval.specs.Takes.{IsScalar}
use Rattle.weld_eval.proofs.Children.{gives}
use Rattle.weld_rows.specs.Runs.{RunsNumber}

scalar_truth : (t : _) → t ≡ truth_type → IsScalar t
scalar_truth t e = subst IsScalar (sym e) tt

pub selection_condition_runs : {d : Bool} (a : At) (c e f : ExprTree) (env : Env) → RunsNumber d (three a select c e f) env → RunsNumber d c env
selection_condition_runs a c e f env h = record { fit = record { names = h.fit.names; origins = h.fit.origins; named = h.fit.named; answer = h.fit.typed.0; typed = h.fit.typed.3; keeps = h.fit.keeps.0 }; direct = λ t. (h.direct t).0; scalar = scalar_truth h.fit.typed.0 h.fit.typed.6.0 }

pub selection_then_runs : {d : Bool} (a : At) (c e f : ExprTree) (env : Env) → RunsNumber d (three a select c e f) env → RunsNumber d e env
selection_then_runs a c e f env h = record { fit = record { names = h.fit.names; origins = h.fit.origins; named = h.fit.named; answer = h.fit.typed.1; typed = h.fit.typed.4; keeps = h.fit.keeps.1 }; direct = λ t. (h.direct t).1; scalar = subst IsScalar (sym h.fit.typed.6.1) h.scalar }

pub selection_otherwise_runs : {d : Bool} (a : At) (c e f : ExprTree) (env : Env) → RunsNumber d (three a select c e f) env → RunsNumber d f env
selection_otherwise_runs a c e f env h = record { fit = record { names = h.fit.names; origins = h.fit.origins; named = h.fit.named; answer = h.fit.typed.2; typed = h.fit.typed.5; keeps = h.fit.keeps.2 }; direct = λ t. (h.direct t).2; scalar = subst IsScalar (sym h.fit.typed.6.2) h.scalar }

-- a truth value is one
truth : (v : Value) → HasThing (plain v) truth_type → IsTruth v
truth v h = h

pub selection_is_truth : {d : Bool} (a : At) (c e f : ExprTree) (env : Env) (v : Value) → RunsNumber d (three a select c e f) env → eval c env ≡ done (plain v) → IsTruth v
selection_is_truth a c e f env v h q = truth v (subst (HasThing (plain v)) h.fit.typed.6.0 (gives c h.fit.names h.fit.origins env h.fit.typed.0 (plain v) h.fit.named h.fit.typed.3 q))

-- ---- what it comes to

select_is : (a : At) (c e f : ExprTree) (env : Env) (u v w : Value) → eval c env ≡ done (plain u) → eval e env ≡ done (plain v) → eval f env ≡ done (plain w)
    → eval (three a select c e f) env ≡ map_out plain (map_out (λ (b : Bool). if b then v else w) (truth_of u))
select_is a c e f env u v w p q r =
    ap (λ o. and_then o (λ t. three_thing select t (eval e env) (eval f env))) p ∙ ap (λ o. three_thing select (plain u) o (eval f env)) q ∙ ap (λ o. three_thing select (plain u) (done (plain v)) o) r

pub selects_then : (a : At) (c e f : ExprTree) (env : Env) (u v w : Value) → eval c env ≡ done (plain u) → eval e env ≡ done (plain v) → eval f env ≡ done (plain w) → truth_of u ≡ done true → eval (three a select c e f) env ≡ done (plain v)
selects_then a c e f env u v w p q r t = select_is a c e f env u v w p q r ∙ ap (λ o. map_out plain (map_out (λ (b : Bool). if b then v else w) o)) t

pub selects_otherwise : (a : At) (c e f : ExprTree) (env : Env) (u v w : Value) → eval c env ≡ done (plain u) → eval e env ≡ done (plain v) → eval f env ≡ done (plain w) → truth_of u ≡ done false → eval (three a select c e f) env ≡ done (plain w)
selects_otherwise a c e f env u v w p q r t = select_is a c e f env u v w p q r ∙ ap (λ o. map_out plain (map_out (λ (b : Bool). if b then v else w) o)) t

-- ---- faults

pub selection_then_faults : (a : At) (c e f : ExprTree) (env : Env) (u : Value) → eval c env ≡ done (plain u) → eval e env ≡ fault → eval (three a select c e f) env ≡ fault
selection_then_faults a c e f env u p q = ap (λ o. and_then o (λ t. three_thing select t (eval e env) (eval f env))) p ∙ ap (λ o. three_thing select (plain u) o (eval f env)) q

pub selection_otherwise_faults : (a : At) (c e f : ExprTree) (env : Env) (u v : Value) → eval c env ≡ done (plain u) → eval e env ≡ done (plain v) → eval f env ≡ fault → eval (three a select c e f) env ≡ fault
selection_otherwise_faults a c e f env u v p q r =
    ap (λ o. and_then o (λ t. three_thing select t (eval e env) (eval f env))) p ∙ ap (λ o. three_thing select (plain u) o (eval f env)) q ∙ ap (λ o. three_thing select (plain u) (done (plain v)) o) r
