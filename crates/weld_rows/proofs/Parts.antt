-- What is known of a node that is run is known of its parts: two, three, any number of them, and a state.
use Rattle.std.proofs.Common.{◌≡◌, Bool, true, ◌∷◌, ℕ, zero, suc, ◌+◌, ◌<◌, ◌≤◌, List, [], length, drop, get_or, refl, sym, subst, arith}
use Rattle.weld_data.specs.Value.{Value}
use Rattle.weld_tree.specs.declared.binder.Binder.{Binder}
use Rattle.weld_tree.specs.ExprFalls.{expr_nodes, exprs_nodes}
use Rattle.weld_tree.specs.ExprTree.{ExprTree, ExprTrees, At, two, three, many, iterate, Two, Three, Many, pack_exprs}
use Rattle.weld_builders.specs.Outcome.{done}
use Rattle.weld_meaning.specs.Thing.{Thing, Things, plain}
use Rattle.weld_meaning.specs.Evaluation.{Env, eval, eval_all}
use Rattle.weld_eval_plain.specs.Turns.{HoldsState}
use Rattle.weld_eval.specs.Takes.{TwoTakes, ThreeTakes}
use Rattle.weld_eval_forms.specs.FormTakes.{ManyTakes}
use Rattle.weld_eval_plain.proofs.Nodes as nodes
use Rattle.weld_eval_plain.proofs.Nodes.{first_fits, second_fits, condition_fits}
use Rattle.weld_eval_plain.proofs.Parts as lists
use Rattle.weld_eval_plain.proofs.Parts.{parts_fit, part_fits, rest_fits}
use Rattle.weld_eval_plain.proofs.Turns.{turn_fits}
use Rattle.weld_eval.proofs.Children.{fit_state}
use Rattle.weld_acts.specs.Act.{AreDirect}
use Rattle.weld_acts.proofs.Direct.{direct_first, direct_second, direct_condition, direct_parts, direct_at, direct_after, direct_state, direct_turn}
use Rattle.weld_rows.specs.Runs.{Runs, AllRun}

pub first_runs : {d : Bool} (a : At) (o : Two) (e f : ExprTree) (env : Env) → Runs d (two a o e f) env → Runs d e env
first_runs a o e f env h = record { fit = first_fits a o e f env (two a o e f) refl h.fit; direct = λ t. direct_first a o e f (two a o e f) refl (h.direct t) }

pub second_runs : {d : Bool} (a : At) (o : Two) (e f : ExprTree) (env : Env) → Runs d (two a o e f) env → Runs d f env
second_runs a o e f env h = record { fit = second_fits a o e f env (two a o e f) refl h.fit; direct = λ t. direct_second a o e f (two a o e f) refl (h.direct t) }

pub both_take : {d : Bool} (a : At) (o : Two) (e f : ExprTree) (env : Env) (x y : Thing) → Runs d (two a o e f) env → eval e env ≡ done x → eval f env ≡ done y → TwoTakes o x y
both_take a o e f env x y h p q = nodes.both_take a o e f env (two a o e f) x y refl h.fit p q

pub condition_runs : {d : Bool} (a : At) (o : Three) (c e f : ExprTree) (env : Env) → Runs d (three a o c e f) env → Runs d c env
condition_runs a o c e f env h = record { fit = condition_fits a o c e f env (three a o c e f) refl h.fit; direct = λ t. direct_condition a o c e f (three a o c e f) refl (h.direct t) }

pub all_take : {d : Bool} (a : At) (o : Three) (c e f : ExprTree) (env : Env) (x y z : Thing) → Runs d (three a o c e f) env → eval c env ≡ done x → eval e env ≡ done y → eval f env ≡ done z → ThreeTakes o x y z
all_take a o c e f env x y z h p q r = nodes.all_take a o c e f env (three a o c e f) x y z refl h.fit p q r

pub parts_run : {d : Bool} (a : At) (o : Many) (es : ExprTrees) (env : Env) → Runs d (many a o es) env → AllRun d es env
parts_run a o es env h = record { fit = parts_fit a o es env (many a o es) refl h.fit; direct = λ t. direct_parts a o es (many a o es) refl (h.direct t) }

pub parts_take : {d : Bool} (a : At) (o : Many) (es : ExprTrees) (env : Env) (xs : Things) → Runs d (many a o es) env → eval_all es env ≡ done xs → ManyTakes o xs
parts_take a o es env xs h q = lists.parts_take a o es env (many a o es) xs refl h.fit q

pub part_runs_at : {d : Bool} (es : List ExprTree) (env : Env) (i : ℕ) (e : ExprTree) → i < length es → e ≡ get_or es i e → AllRun d (pack_exprs (drop i es)) env → Runs d e env
part_runs_at es env i e h is k = record { fit = part_fits es env i e h is k.fit; direct = λ t. direct_at es i e h is (k.direct t) }

pub rest_runs : {d : Bool} (es : List ExprTree) (env : Env) (i : ℕ) (e : ExprTree) → i < length es → e ≡ get_or es i e → AllRun d (pack_exprs (drop i es)) env → AllRun d (pack_exprs (drop (i + 1) es)) env
rest_runs es env i e h is k = record { fit = rest_fits es env i e h is k.fit; direct = λ t. direct_after es i e h is (k.direct t) }

pub start_runs : {d : Bool} (a : At) (e : ExprTree) (b : Binder) (f : ExprTree) (env : Env) (n : ExprTree) → n ≡ iterate a e b f → Runs d n env → Runs d e env
start_runs {d} a e b f env n is h = record { fit = fit_state a e b f env (subst (λ m. Runs d m env) is h).fit; direct = λ t. direct_state a e b f n is (h.direct t) }

pub turn_runs : {d : Bool} (a : At) (e : ExprTree) (b : Binder) (f : ExprTree) (env : Env) (n : ExprTree) (v : Value) → n ≡ iterate a e b f → HoldsState n env v → (d ≡ true → AreDirect n) → Runs d f ((b.sym.0, plain v) ∷ env)
turn_runs a e b f env n v is h k = record { fit = turn_fits a e b f env n v is h; direct = λ t. direct_turn a e b f n is (k t) }

-- ---- how many nodes there are

under : (es : List ExprTree) (i : ℕ) (d : ExprTree) → i < length es → expr_nodes (get_or es i d) ≤ exprs_nodes (pack_exprs es)
under [] i d h = absurd (omega arith)
under (e ∷ es) zero d h = omega arith
under (e ∷ es) (suc i) d h = let r : expr_nodes (get_or es i d) ≤ exprs_nodes (pack_exprs es) = under es i d (omega arith) in omega arith

pub part_less : (es fs : List ExprTree) (i : ℕ) (e : ExprTree) → es ≡ fs → i < length es → e ≡ get_or es i e → expr_nodes e ≤ exprs_nodes (pack_exprs fs)
part_less es fs i e same h is =
    let r : expr_nodes (get_or es i e) ≤ exprs_nodes (pack_exprs es) = under es i e h in
    let s : expr_nodes e ≤ exprs_nodes (pack_exprs es) = subst (λ d. expr_nodes d ≤ exprs_nodes (pack_exprs es)) (sym is) r in
    subst (λ l. expr_nodes e ≤ exprs_nodes (pack_exprs l)) same s
