-- What is done in place, step by step.
use Rattle.std.proofs.Common.{◌≡◌, ℕ, zero, suc, ◌+◌, ◌<◌, ◌≤◌, ◌∷◌, true, false, List, [], length, get_or, drop, Result, Ok, Err, Option, Some, refl, sym, ap, ◌∙◌, subst, arith}
use Rattle.weld_data.specs.declared.stop.Stop.{Stop}
use Rattle.weld_data.specs.declared.stop.Stop.TheVariants.{Fault, Memory}
use Rattle.weld_data.specs.Value.{Value}
use Rattle.weld_tree.specs.declared.binder.Binder.{Binder}
use Rattle.weld_tree.specs.TypeTree.{TypeTrees, no_types, more_types}
use Rattle.weld_tree.specs.ExprTree.{ExprTree, ExprTrees, At, LegTrees, two, three, many, let_in, loop, iterate, merge, if_else, Many, make_struct, no_exprs, more_exprs, pack_exprs}
use Rattle.weld_builders.specs.Outcome.{Outcome, done, fault, stuck, and_then, map_out}
use Rattle.weld_meaning.specs.Thing.{Thing, plain, building, several, Things, no_things, more_things, fields_of}
use Rattle.weld_meaning.specs.ThingType.{HasThing, HaveBuilders}
use Rattle.weld_meaning.specs.Typing.{Types, HaveTypes}
use Rattle.weld_meaning.specs.Evaluation.{Env, eval, many_thing, merged, truth_of, eval_legs, rows_of}
use Rattle.weld_meaning.specs.Meaning.{GivesOrFaults}
use Rattle.weld_meaning.proofs.NeverStuck.{never_stuck}
use Rattle.weld_eval.specs.Fits.{IsTruth}
use Rattle.weld_eval.specs.declared.thing.Owned.{Owned}
use Rattle.weld_eval.specs.declared.thing.Owned as owned
use Rattle.weld_eval.specs.declared.thing.Fields.{Fields}
use Rattle.weld_eval.specs.ThingView.{thing_of}
use Rattle.weld_eval.specs.Fit.{IsFit}
use Rattle.weld_eval.specs.ShortView.{view_short}
use Rattle.weld_eval.specs.declared.short.Short.{Short}
use Rattle.weld_eval.proofs.Children.{key_laws, fit_many, fit_first_of_all, fit_rest_of_all}
use Rattle.weld_eval_plain.specs.Rows.{LegsAre}
use Rattle.weld_acts.specs.Act.{act, act_all, Acts}
use Rattle.weld_eval_forms.specs.Legs.{RowsAnswer}
use Rattle.weld_eval_forms.specs.Legs.{rows_in as forms_rows}
use Rattle.std.proofs.lemmas.List.{at_drop_more}
use Rattle.std.proofs.Math.Seq.{drop-nil}
use Rattle.weld_tree.specs.ExprFalls.{expr_nodes, exprs_nodes}
use Rattle.weld_acts.specs.ActFits.{ActFits, ActsFit}
use Rattle.weld_acts.specs.Ranges.{HoldsRange, range_over}
use Rattle.weld_acts.proofs.Direct.{direct_value}
use Rattle.weld_acts.proofs.Children as acts
use Rattle.weld_acts.proofs.Children.{merge_item_fits, merge_item_direct, choice_then, choice_otherwise, let_is, loop_holds, loop_is, loop_part_faults}
use Rattle.weld_eval_plain.proofs.Nodes.{let_value_fits}
use Rattle.weld_eval_plain.proofs.Rows.{legs_there}
use Rattle.weld_eval_forms.specs.Legs.{leg_lists}
use Rattle.weld_eval.specs.declared.thing.Held.{Held}
use Rattle.weld_eval.specs.Answers.{Answers}
use Rattle.weld_rows.specs.Numbers.{TriesNumber, ReadsNumber}
use Rattle.weld_built.specs.Pair.{pair}
use Rattle.weld_deeds.specs.Puts.{PutFits}
use Rattle.weld_deeds.proofs.Merges as puts
use Rattle.weld_deeds.proofs.Merges.{put_fault, is_written, key_is, item_is}
use Rattle.weld_rows.specs.Nodes.{IsPairOf}
use Rattle.weld_rows.specs.RowActs.{ActAll}
use Rattle.weld_rows.proofs.Parts.{part_less}
use Rattle.weld_rows.specs.Runs.{Runs, RunsNumber}
use Rattle.weld_rows.proofs.Numbers.{condition_runs, if_is_truth}

-- ---- a merge

pub merge_part_acts : (a : At) (e f : ExprTree) (env : Env) (s : Thing) → ActFits (two a merge e f) env s → ActFits e env s
merge_part_acts a e f env s h = acts.merge_part_acts a merge e f env (two a merge e f) s refl h

pub merge_part_faults : (a : At) (e f : ExprTree) (env : Env) (s : Thing) → act e env s ≡ fault → act (two a merge e f) env s ≡ fault
merge_part_faults a e f env s q = acts.merge_part_faults a merge e f env (two a merge e f) s refl q

pub item_runs : (a : At) (e f : ExprTree) (env : Env) (s : Thing) → ActFits (two a merge e f) env s → Runs true f env
item_runs a e f env s h = record { fit = merge_item_fits a merge e f env (two a merge e f) s refl h; direct = λ t. merge_item_direct a merge e f env (two a merge e f) s refl h }

pub item_puts : (a : At) (e f : ExprTree) (env : Env) (s t : Thing) → ActFits (two a merge e f) env s → act e env s ≡ done t → PutFits f env t
item_puts a e f env s t h q = puts.item_puts a merge e f env (two a merge e f) s t refl h q

pub merge_by_item : {T : Type 0} (r : Result T Stop) (a : At) (e f : ExprTree) (env : Env) (s t u : Thing) → act e env s ≡ done t → Acts r (merged t (eval f env)) u → Acts r (act (two a merge e f) env s) u
merge_by_item r a e f env s t u q h = subst (λ (x : Outcome Thing). Acts r x u) (sym (ap (λ x. and_then x (λ w. merged w (eval f env))) q)) h

-- ---- an item

pub put_stops : (U : Type 0) (stop : Stop) (e : ExprTree) (env : Env) (s t : Thing) → PutFits e env s → TriesNumber (Err stop) (eval e env) → Acts {T = U} (Err stop) (merged s (eval e env)) t
put_stops U Fault e env s t h q = put_fault e env s h q
put_stops U Memory e env s t h q = tt

-- ---- an `if`

pub choice_runs : (a : At) (c e f : ExprTree) (env : Env) (s : Thing) → ActFits (three a if_else c e f) env s → RunsNumber true c env
choice_runs a c e f env s h = condition_runs a c e f env h.fit (λ t. h.direct)

pub choice_truth : (a : At) (c e f : ExprTree) (env : Env) (s : Thing) (v : Value) → ActFits (three a if_else c e f) env s → eval c env ≡ done (plain v) → IsTruth v
choice_truth a c e f env s v h q = if_is_truth a c e f env v h.fit q

pub then_acts : (a : At) (c e f : ExprTree) (env : Env) (s : Thing) → ActFits (three a if_else c e f) env s → ActFits e env s
then_acts a c e f env s h = acts.then_acts a if_else c e f env (three a if_else c e f) s refl h

pub otherwise_acts : (a : At) (c e f : ExprTree) (env : Env) (s : Thing) → ActFits (three a if_else c e f) env s → ActFits f env s
otherwise_acts a c e f env s h = acts.otherwise_acts a if_else c e f env (three a if_else c e f) s refl h

pub acts_then : {T : Type 0} (r : Result T Stop) (a : At) (c e f : ExprTree) (env : Env) (s t : Thing) (v : Value) → eval c env ≡ done (plain v) → truth_of v ≡ done true → Acts r (act e env s) t → Acts r (act (three a if_else c e f) env s) t
acts_then r a c e f env s t v q d h = subst (λ (x : Outcome Thing). Acts r x t) (sym (choice_then a if_else c e f env (three a if_else c e f) s (plain v) v refl q refl d)) h

pub acts_otherwise : {T : Type 0} (r : Result T Stop) (a : At) (c e f : ExprTree) (env : Env) (s t : Thing) (v : Value) → eval c env ≡ done (plain v) → truth_of v ≡ done false → Acts r (act f env s) t → Acts r (act (three a if_else c e f) env s) t
acts_otherwise r a c e f env s t v q d h = subst (λ (x : Outcome Thing). Acts r x t) (sym (choice_otherwise a if_else c e f env (three a if_else c e f) s (plain v) v refl q refl d)) h

pub choice_faults : (a : At) (c e f : ExprTree) (env : Env) (s : Thing) → eval c env ≡ fault → act (three a if_else c e f) env s ≡ fault
choice_faults a c e f env s q = acts.choice_faults a if_else c e f env (three a if_else c e f) s refl q

-- ---- a `let`

pub let_first_runs : (a : At) (b : Binder) (e f : ExprTree) (env : Env) (s : Thing) → ActFits (let_in a b e f) env s → Runs true e env
let_first_runs a b e f env s h = record { fit = let_value_fits a b e f env (let_in a b e f) refl h.fit; direct = λ t. direct_value a b e f (let_in a b e f) refl h.direct }

pub let_acts : (a : At) (b : Binder) (e f : ExprTree) (env : Env) (s x : Thing) → ActFits (let_in a b e f) env s → eval e env ≡ done x → ActFits f ((b.sym.0, x) ∷ env) s
let_acts a b e f env s x h q = acts.let_acts a b e f env (let_in a b e f) s x refl h q

pub acts_let : {T : Type 0} (r : Result T Stop) (a : At) (b : Binder) (e f : ExprTree) (env : Env) (s t x : Thing) → eval e env ≡ done x → Acts r (act f ((b.sym.0, x) ∷ env) s) t → Acts r (act (let_in a b e f) env s) t
acts_let r a b e f env s t x q h = subst (λ (o : Outcome Thing). Acts r o t) (sym (let_is a b e f env (let_in a b e f) s x refl q)) h

pub let_faults : (a : At) (b : Binder) (e f : ExprTree) (env : Env) (s : Thing) → eval e env ≡ fault → act (let_in a b e f) env s ≡ fault
let_faults a b e f env s q = acts.let_faults a b e f env (let_in a b e f) s refl q

-- ---- a struct

pub struct_acts : (a : At) (es : ExprTrees) (env : Env) (s : Thing) → ActFits (many a make_struct es) env s → ActsFit es env (fields_of s)
struct_acts a es env s h = acts.struct_acts a make_struct es env (many a make_struct es) s refl h

pub struct_several : (a : At) (es : ExprTrees) (env : Env) (s : Thing) → ActFits (many a make_struct es) env s → s ≡ several (fields_of s)
struct_several a es env s h = acts.struct_several a make_struct es env (many a make_struct es) s refl h

struct_is : (a : At) (es : ExprTrees) (env : Env) (s : Thing) (ts : Things) → ActFits (many a make_struct es) env s → act_all es env (fields_of s) ≡ done ts → act (many a make_struct es) env s ≡ done (several ts)
struct_is a es env s ts h q = acts.struct_is a make_struct es env (many a make_struct es) s ts refl h q

struct_faults : (a : At) (es : ExprTrees) (env : Env) (s : Thing) → act_all es env (fields_of s) ≡ fault → act (many a make_struct es) env s ≡ fault
struct_faults a es env s q = acts.struct_faults a make_struct es env (many a make_struct es) s refl q

pub struct_gives : {T : Type 0} (r : Result T Stop) (a : At) (es : ExprTrees) (env : Env) (s : Thing) (ts : Things) → ActFits (many a make_struct es) env s → ActAll r (act_all es env (fields_of s)) ts → Acts r (act (many a make_struct es) env s) (several ts)
struct_gives (Ok x) a es env s ts h q = struct_is a es env s ts h q
struct_gives (Err Fault) a es env s ts h q = struct_faults a es env s q
struct_gives (Err Memory) a es env s ts h q = tt

-- ---- a pair that is written

pair_runs : (a : At) (o : Many) (k v : ExprTree) (env : Env) → Runs true (many a o (more_exprs k (more_exprs v no_exprs))) env → Runs true k env × Runs true v env
pair_runs a o k v env h =
    let fit = fit_many a o (more_exprs k (more_exprs v no_exprs)) env h.fit in (
      record { fit = fit_first_of_all k (more_exprs v no_exprs) env fit; direct = λ t. (h.direct t).0 },
      record { fit = fit_first_of_all v no_exprs env (fit_rest_of_all k (more_exprs v no_exprs) env fit); direct = λ t. (h.direct t).1.0 },
    )

-- the two parts of a struct of two
as_pair : (es : List ExprTree) (n : ExprTree) → (h : IsPairOf n es) → (k : ExprTree) × (v : ExprTree) × (es ≡ k ∷ v ∷ []) × (n ≡ many h.here make_struct (more_exprs k (more_exprs v no_exprs)))
as_pair es n h = puts.as_pair h.here make_struct es n h.is (is_written h.here es n h.is h.two)

pub pair_length : (es : List ExprTree) (n : ExprTree) → IsPairOf n es → length es ≡ 2
pair_length es n h = h.two

pub pair_less : (es : List ExprTree) (n e : ExprTree) (i : ℕ) → IsPairOf n es → i < 2 → e ≡ get_or es i e → expr_nodes e + 1 ≤ expr_nodes n
pair_less es n e i h less at =
    let r = part_less es es i e refl (omega (arith, h.two)) at in
    subst (λ m. expr_nodes e + 1 ≤ expr_nodes m) (sym h.is) (omega (arith, r))

pub pair_key_runs : (es : List ExprTree) (env : Env) (n e : ExprTree) → IsPairOf n es → Runs true n env → e ≡ get_or es 0 e → Runs true e env
pair_key_runs es env n e form h at =
    let p = as_pair es n form in
    subst (λ m. Runs true m env) (sym (key_is es p.0 p.1 e p.2 at)) (pair_runs form.here make_struct p.0 p.1 env (subst (λ m. Runs true m env) p.3 h)).0

pub pair_item_runs : (es : List ExprTree) (env : Env) (n e : ExprTree) → IsPairOf n es → Runs true n env → e ≡ get_or es 1 e → Runs true e env
pair_item_runs es env n e form h at =
    let p = as_pair es n form in
    subst (λ m. Runs true m env) (sym (item_is es p.0 p.1 e p.2 at)) (pair_runs form.here make_struct p.0 p.1 env (subst (λ m. Runs true m env) p.3 h)).1

pub pair_is : (es : List ExprTree) (env : Env) (n e f : ExprTree) (x y : Value) → IsPairOf n es → e ≡ get_or es 0 e → f ≡ get_or es 1 f → eval e env ≡ done (plain x) → eval f env ≡ done (plain y) → eval n env ≡ done (plain (pair x y))
pair_is es env n e f x y h at also q r = puts.pair_is h.here make_struct es env n e f x y h.is (is_written h.here es n h.is h.two) at also q r

key_fault : (a : At) (k v : ExprTree) (env : Env) → eval k env ≡ fault → eval (many a make_struct (more_exprs k (more_exprs v no_exprs))) env ≡ fault
key_fault a k v env q = ap (λ o. and_then (and_then o (λ t. map_out (more_things t) (and_then (eval v env) (λ u. map_out (more_things u) (done no_things))))) (many_thing make_struct)) q

not_stuck : (o : Outcome Thing) (P : Thing → Type 0) → GivesOrFaults P o → and_then o (λ t. map_out (more_things t) fault) ≡ fault
not_stuck (done x) P h = refl
not_stuck fault P h = refl
not_stuck stuck P h = absurd h

item_fault : (a : At) (k v : ExprTree) (env : Env) → IsFit k env → eval v env ≡ fault → eval (many a make_struct (more_exprs k (more_exprs v no_exprs))) env ≡ fault
item_fault a k v env h q =
    ap (λ o. and_then (and_then (eval k env) (λ t. map_out (more_things t) (and_then o (λ u. map_out (more_things u) (done no_things))))) (many_thing make_struct)) q
    ∙ ap (λ o. and_then o (many_thing make_struct)) (not_stuck (eval k env) (λ x. HasThing x h.answer) (never_stuck key_laws k h.names h.answer env h.typed h.named.formed h.named.fits).fits)

pub pair_key_stops : (U : Type 0) (stop : Stop) (es : List ExprTree) (env : Env) (n e : ExprTree) (s t : Thing) → IsPairOf n es → e ≡ get_or es 0 e → PutFits n env s
    → TriesNumber (Err stop) (eval e env) → Acts {T = U} (Err stop) (merged s (eval n env)) t
pair_key_stops U Fault es env n e s t form at h q =
    let p = as_pair es n form in
    put_fault n env s h (ap (λ m. eval m env) p.3 ∙ key_fault form.here p.0 p.1 env (ap (λ m. eval m env) (sym (key_is es p.0 p.1 e p.2 at)) ∙ q))
pair_key_stops U Memory es env n e s t form at h q = tt

pub pair_item_stops : (U : Type 0) (stop : Stop) (es : List ExprTree) (env : Env) (n e : ExprTree) (s t : Thing) → IsPairOf n es → Runs true n env → e ≡ get_or es 1 e → PutFits n env s
    → TriesNumber (Err stop) (eval e env) → Acts {T = U} (Err stop) (merged s (eval n env)) t
pair_item_stops U Fault es env n e s t form r at h q =
    let p = as_pair es n form in
    put_fault n env s h
    (ap (λ m. eval m env) p.3 ∙ item_fault form.here p.0 p.1 env (pair_runs form.here make_struct p.0 p.1 env (subst (λ m. Runs true m env) p.3 r)).0.fit (ap (λ m. eval m env) (sym (item_is es p.0 p.1 e p.2 at)) ∙ q))
pair_item_stops U Memory es env n e s t form r at h q = tt

-- ---- a loop that goes on

pub act_over_holds : (a : At) (ls : LegTrees) (e : ExprTree) (b n x : Binder) (f : ExprTree) (env : Env) (m : ExprTree) (s t : Thing) (lists : List (List Value)) (rows : List Value) (count : ℕ) → m ≡ loop a ls e b n x f → ActFits m env s
    → eval_legs ls env ≡ done lists → rows_of lists ≡ done rows → length rows ≡ count → act e env s ≡ done t → HoldsRange m env lists 0 count t
act_over_holds a ls e b n x f env m s t lists rows count is h q r len u = subst (λ k. HoldsRange m env lists 0 k t) len (loop_holds a ls e b n x f env m s t lists rows is h q r u)

pub act_over_is : {T : Type 0} (r : Result T Stop) (a : At) (ls : LegTrees) (e : ExprTree) (b n x : Binder) (f : ExprTree) (env : Env) (m : ExprTree) (s t u : Thing) (lists : List (List Value)) (rows : List Value) (count : ℕ) → m ≡ loop a ls e b n x f → ActFits m env s
    → eval_legs ls env ≡ done lists → rows_of lists ≡ done rows → length rows ≡ count → act e env s ≡ done t → Acts r (range_over m env lists 0 count t) u → Acts r (act m env s) u
act_over_is r a ls e b n x f env m s t u lists rows count is h q p len v k =
    subst (λ (o : Outcome Thing). Acts r o u) (sym (loop_is a ls e b n x f env m s t lists rows is h q p v ∙ ap (λ i. range_over m env lists 0 i t) len)) k

pub no_turns : (a : At) (e : ExprTree) (b : Binder) (f : ExprTree) (env : Env) (n : ExprTree) (s : Thing) → n ≡ iterate a e b f → ActFits n env s → ⊥
no_turns a e b f env n s is h = let k = subst (λ m. ActFits m env s) is h in k.acts

pub put_made_stops : {T : Type 0} (U : Type 0) (stop : Stop) (view : T → Thing) (e : ExprTree) (env : Env) (s t : Thing) → PutFits e env s → Answers view (Err stop) (eval e env) → Acts {T = U} (Err stop) (merged s (eval e env)) t
put_made_stops U Fault view e env s t h q = put_fault e env s h q
put_made_stops U Memory view e env s t h q = tt

pub act_over_ready : (a : At) (ls : LegTrees) (e : ExprTree) (b n x : Binder) (f : ExprTree) (env : Env) (m : ExprTree) (s t : Thing) (lists : List (List Value)) (count : ℕ) → m ≡ loop a ls e b n x f → ActFits m env s
    → LegsAre m env lists → RowsAnswer (Ok count) lists → act e env s ≡ done t → HoldsRange m env lists 0 count t
act_over_ready a ls e b n x f env m s t lists count is h q r u =
    act_over_holds a ls e b n x f env m s t lists (forms_rows lists) count is h (subst (λ k. LegsAre k env lists) is q) r.0 r.1 u

pub act_over_gives : {T : Type 0} (r : Result T Stop) (a : At) (ls : LegTrees) (e : ExprTree) (b n x : Binder) (f : ExprTree) (env : Env) (m : ExprTree) (s t u : Thing) (lists : List (List Value)) (count : ℕ) → m ≡ loop a ls e b n x f → ActFits m env s
    → LegsAre m env lists → RowsAnswer (Ok count) lists → act e env s ≡ done t → Acts r (range_over m env lists 0 count t) u → Acts r (act m env s) u
act_over_gives r a ls e b n x f env m s t u lists count is h q p v k =
    act_over_is r a ls e b n x f env m s t u lists (forms_rows lists) count is h (subst (λ l. LegsAre l env lists) is q) p.0 p.1 v k

pub lone_act_ready : (a : At) (ls : LegTrees) (e : ExprTree) (b n x : Binder) (f : ExprTree) (env : Env) (m : ExprTree) (s t : Thing) (vs : List Value) → m ≡ loop a ls e b n x f → ActFits m env s
    → LegsAre m env (vs ∷ []) → act e env s ≡ done t → HoldsRange m env (vs ∷ []) 0 (length vs) t
lone_act_ready a ls e b n x f env m s t vs is h q u = act_over_holds a ls e b n x f env m s t (vs ∷ []) vs (length vs) is h (subst (λ k. LegsAre k env (vs ∷ [])) is q) refl refl u

pub lone_act_gives : {T : Type 0} (r : Result T Stop) (a : At) (ls : LegTrees) (e : ExprTree) (b n x : Binder) (f : ExprTree) (env : Env) (m : ExprTree) (s t u : Thing) (vs : List Value) → m ≡ loop a ls e b n x f → ActFits m env s
    → LegsAre m env (vs ∷ []) → act e env s ≡ done t → Acts r (range_over m env (vs ∷ []) 0 (length vs) t) u → Acts r (act m env s) u
lone_act_gives r a ls e b n x f env m s t u vs is h q v k = act_over_is r a ls e b n x f env m s t u (vs ∷ []) vs (length vs) is h (subst (λ l. LegsAre l env (vs ∷ [])) is q) refl refl v k

pub lone_act_faults : (a : At) (ls : LegTrees) (e : ExprTree) (b n x : Binder) (f : ExprTree) (env : Env) (m : ExprTree) (s : Thing) (vs : List Value) → m ≡ loop a ls e b n x f → LegsAre m env (vs ∷ []) → act e env s ≡ fault → act m env s ≡ fault
lone_act_faults a ls e b n x f env m s vs is q u = loop_part_faults a ls e b n x f env m s (vs ∷ []) vs is (subst (λ k. LegsAre k env (vs ∷ [])) is q) refl u

-- ---- fields

part_more : (es : List ExprTree) (i : ℕ) (e : ExprTree) → i < length es → e ≡ get_or es i e → pack_exprs (drop i es) ≡ more_exprs e (pack_exprs (drop (i + 1) es))
part_more es i e less is = at_drop_more (λ l. pack_exprs l) es i e less ∙ ap (λ d. more_exprs d (pack_exprs (drop (i + 1) es))) (sym is)

pub fields_fewer : (es : List ExprTree) (i : ℕ) (e : ExprTree) → i < length es → e ≡ get_or es i e → expr_nodes e + exprs_nodes (pack_exprs (drop (i + 1) es)) ≡ exprs_nodes (pack_exprs (drop i es))
fields_fewer es i e less is = sym (ap exprs_nodes (part_more es i e less is))

pub fields_are : (es : List ExprTree) (env : Env) (i : ℕ) (e : ExprTree) (x : Thing) (xs : Things) → i < length es → e ≡ get_or es i e
    → act_all (pack_exprs (drop i es)) env (more_things x xs) ≡ and_then (act e env x) (λ t. map_out (more_things t) (act_all (pack_exprs (drop (i + 1) es)) env xs))
fields_are es env i e x xs less is = ap (λ l. act_all l env (more_things x xs)) (part_more es i e less is)

ended : (es : ExprTrees) (names : Types) (us : TypeTrees) → HaveTypes es names us → HaveBuilders no_things us → es ≡ no_exprs
ended no_exprs names us h k = refl
ended (more_exprs e es) names no_types h k = absurd h
ended (more_exprs e es) names (more_types u us) h k = absurd k

pub fields_end : (es : ExprTrees) (env : Env) → ActsFit es env no_things → act_all es env no_things ≡ done no_things
fields_end es env h = ap (λ l. act_all l env no_things) (ended es h.fit.names h.fit.answers h.fit.typed h.have)

pub some_left : (es : List ExprTree) (i : ℕ) (env : Env) (x : Thing) (xs : Things) → ActsFit (pack_exprs (drop i es)) env (more_things x xs) → i < length es
some_left [] i env x xs h = absurd (no_fields h.fit.answers (subst (λ (l : List ExprTree). HaveTypes (pack_exprs l) h.fit.names h.fit.answers) (drop-nil i) h.fit.typed) h.have)
  where
    no_fields : (us : TypeTrees) → HaveTypes no_exprs h.fit.names us → HaveBuilders (more_things x xs) us → ⊥
    no_fields no_types p q = by x q
      where
        by : (y : Thing) → HaveBuilders (more_things y xs) no_types → ⊥
        by (plain v) k = k
        by (building b) k = k
        by (several ts) k = k
    no_fields (more_types u us) p q = p
some_left (e ∷ es) zero env x xs h = omega arith
some_left (e ∷ es) (suc i) env x xs h = let less = some_left es i env x xs h in omega arith

pub several_there : (b : Owned) (ts : Things) → thing_of b ≡ several ts → ((fs : Fields) → b ≡ owned.Several fs → ⊥) → ⊥
several_there (owned.Value v) ts e other = let n : ⊥ = cc in n
several_there (owned.Built p) ts e other = let n : ⊥ = cc in n
several_there (owned.Several fs) ts e other = other fs refl

pub reads_some : (o : Option Short) (n : Short) (x : Outcome Thing) → o ≡ Some n → ReadsNumber o x → x ≡ done (plain (view_short n))
reads_some o n x e h = subst (λ (p : Option Short). ReadsNumber p x) e h
