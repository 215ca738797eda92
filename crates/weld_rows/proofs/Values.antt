-- What is known of a node that is run is known of its parts.
use Rattle.std.proofs.Common.{◌≡◌, Bool, true, ◌∷◌, ℕ, zero, suc, ◌+◌, ◌*◌, ◌-◌, ◌<◌, ◌≤◌, List, [], length, drop, take, get_or, Result, Ok, refl, sym, ap, ◌∙◌, subst, arith}
use Rattle.weld_data.specs.Value.{Value}
use Rattle.weld_tree.specs.declared.binder.Binder.{Binder}
use Rattle.weld_tree.specs.ExprFalls.{expr_nodes, leg_nodes, legs_nodes}
use Rattle.weld_tree.specs.ExprTree.{ExprTree, At, leaf, one, two, three, many, let_in, loop, iterate, One, Three, LegTree, whole, strided, LegTrees, no_legs, more_legs}
use Rattle.weld_builders.specs.Outcome.{Outcome, done, fault, stuck, and_then, map_out}
use Rattle.weld_meaning.specs.Thing.{Thing}
use Rattle.weld_meaning.specs.Evaluation.{Env, eval, eval_leg, eval_legs, rows_of, run, number_from}
use Rattle.weld_eval.specs.Fit.{IsFit, LegsAreFit}
use Rattle.weld_eval.specs.Takes.{OneTakes, row_of}
use Rattle.weld_data.specs.declared.stop.Stop.{Stop}
use Rattle.weld_eval.specs.Answers.{Answers}
use Rattle.weld_eval_forms.specs.Legs.{leg_lists, elements_in, RowsAnswer}
use Rattle.weld_eval_forms.specs.Legs.{rows_in as forms_rows}
use Rattle.weld_eval.specs.declared.thing.Held.{Held}
use Rattle.weld_eval_plain.specs.Rows.{LegsAre, rows_from}
use Rattle.weld_eval_plain.proofs.Nodes.{part_fits, part_takes, then_fits, otherwise_fits, let_value_fits, let_body_fits}
use Rattle.weld_eval_plain.proofs.Rows.{loop_legs_fit, loop_builder_fits, rows_start}
use Rattle.weld_acts.specs.ActFits.{ActFits}
use Rattle.weld_acts.specs.Ranges.{HoldsRange, range_over}
use Rattle.weld_acts.proofs.Direct.{direct_part, direct_then, direct_otherwise, direct_value, direct_let_body, direct_legs, direct_builder}
use Rattle.weld_acts.proofs.Children.{all_rows}
use Rattle.weld_rows.specs.RowActs.{count_legs, legs_count, body_nodes}
use Rattle.weld_rows.specs.Runs.{Runs, LegsRun}
use Rattle.std.proofs.lemmas.List.{length-map}

pub part_runs : {d : Bool} (a : At) (o : One) (e : ExprTree) (env : Env) (n : ExprTree) → n ≡ one a o e → Runs d n env → Runs d e env
part_runs a o e env n is h = record { fit = part_fits a o e env n is h.fit; direct = λ t. direct_part a o e n is (h.direct t) }

pub part_run_takes : {d : Bool} (a : At) (o : One) (e : ExprTree) (env : Env) (n : ExprTree) (x : Thing) → n ≡ one a o e → Runs d n env → eval e env ≡ done x → OneTakes o x
part_run_takes a o e env n x is h q = part_takes a o e env n x is h.fit q

pub then_run : {d : Bool} (a : At) (o : Three) (c e f : ExprTree) (env : Env) → Runs d (three a o c e f) env → Runs d e env
then_run a o c e f env h = record { fit = then_fits a o c e f env (three a o c e f) refl h.fit; direct = λ t. direct_then a o c e f (three a o c e f) refl (h.direct t) }

pub otherwise_run : {d : Bool} (a : At) (o : Three) (c e f : ExprTree) (env : Env) → Runs d (three a o c e f) env → Runs d f env
otherwise_run a o c e f env h = record { fit = otherwise_fits a o c e f env (three a o c e f) refl h.fit; direct = λ t. direct_otherwise a o c e f (three a o c e f) refl (h.direct t) }

pub let_value_runs : {d : Bool} (a : At) (b : Binder) (e f : ExprTree) (env : Env) → Runs d (let_in a b e f) env → Runs d e env
let_value_runs a b e f env h = record { fit = let_value_fits a b e f env (let_in a b e f) refl h.fit; direct = λ t. direct_value a b e f (let_in a b e f) refl (h.direct t) }

pub let_body_runs : {d : Bool} (a : At) (b : Binder) (e f : ExprTree) (env : Env) (x : Thing) → Runs d (let_in a b e f) env → eval e env ≡ done x → Runs d f ((b.sym.0, x) ∷ env)
let_body_runs a b e f env x h q = record { fit = let_body_fits a b e f env (let_in a b e f) x refl h.fit q; direct = λ t. direct_let_body a b e f (let_in a b e f) refl (h.direct t) }

-- ---- loops

pub loop_legs_run : {d : Bool} (a : At) (ls : LegTrees) (e : ExprTree) (b n x : Binder) (f : ExprTree) (env : Env) (m : ExprTree) → m ≡ loop a ls e b n x f → Runs d m env → LegsRun d ls env
loop_legs_run a ls e b n x f env m is h = record { fit = loop_legs_fit a ls e b n x f env m is h.fit; direct = λ t. direct_legs a ls e b n x f m is (h.direct t) }

pub loop_start_runs : {d : Bool} (a : At) (ls : LegTrees) (e : ExprTree) (b n x : Binder) (f : ExprTree) (env : Env) (m : ExprTree) → m ≡ loop a ls e b n x f → Runs d m env → Runs d e env
loop_start_runs a ls e b n x f env m is h = record { fit = loop_builder_fits a ls e b n x f env m is h.fit; direct = λ t. direct_builder a ls e b n x f m is (h.direct t) }

pub over_holds : (a : At) (ls : LegTrees) (e : ExprTree) (b n x : Binder) (f : ExprTree) (env : Env) (m : ExprTree) (lists : List (List Value)) (rows : List Value) (count : ℕ) (s : Thing)
    → m ≡ loop a ls e b n x f → IsFit m env → eval_legs ls env ≡ done lists → rows_of lists ≡ done rows → length rows ≡ count → eval e env ≡ done s → HoldsRange m env lists 0 count s
over_holds a ls e b n x f env m lists rows count s is h q r len u =
    let k = rows_start a ls e b n x f env m lists rows s count is h q r len u in
    record { fit = k.fit; has = k.has; rows = k.rows; are = k.are; rows_have = k.rows_have; ordered = omega arith; within = omega (arith, k.count_is) }

over_all : (n : ExprTree) (env : Env) (lists : List (List Value)) (rows : List Value) (count : ℕ) (s : Thing) → rows_of lists ≡ done rows → length rows ≡ count → range_over n env lists 0 count s ≡ rows_from n env 0 rows s
over_all n env lists rows count s r len =
    ap (λ o. and_then o (λ vs. rows_from n env 0 (take (count - 0) (drop 0 vs)) s)) r
    ∙ ap (λ k. rows_from n env 0 (take (k - 0) (drop 0 rows)) s) (sym len)
    ∙ ap (λ vs. rows_from n env 0 vs s) (all_rows rows)

pub over_is : (a : At) (ls : LegTrees) (e : ExprTree) (b n x : Binder) (f : ExprTree) (env : Env) (m : ExprTree) (lists : List (List Value)) (rows : List Value) (count : ℕ) (s : Thing)
    → m ≡ loop a ls e b n x f → eval_legs ls env ≡ done lists → rows_of lists ≡ done rows → length rows ≡ count → eval e env ≡ done s → eval m env ≡ range_over m env lists 0 count s
over_is a ls e b n x f env m lists rows count s is q r len u =
    ap (λ k. eval k env) is
    ∙ ap (λ o. and_then o (λ legs. and_then (rows_of legs) (λ vs. and_then (eval e env) (λ t. run (number_from 0 vs) t (λ r w. row_of b n x f env r w))))) q
    ∙ ap (λ o. and_then o (λ vs. and_then (eval e env) (λ t. run (number_from 0 vs) t (λ r w. row_of b n x f env r w)))) r
    ∙ ap (λ o. and_then o (λ t. run (number_from 0 rows) t (λ r w. row_of b n x f env r w))) u
    ∙ sym (ap (λ k. range_over k env lists 0 count s) is ∙ over_all (loop a ls e b n x f) env lists rows count s r len)

pub over_rows_fault : (a : At) (ls : LegTrees) (e : ExprTree) (b n x : Binder) (f : ExprTree) (env : Env) (m : ExprTree) (lists : List (List Value)) → m ≡ loop a ls e b n x f → eval_legs ls env ≡ done lists → rows_of lists ≡ fault → eval m env ≡ fault
over_rows_fault a ls e b n x f env m lists is q r =
    ap (λ k. eval k env) is
    ∙ ap (λ o. and_then o (λ legs. and_then (rows_of legs) (λ vs. and_then (eval e env) (λ t. run (number_from 0 vs) t (λ r w. row_of b n x f env r w))))) q
    ∙ ap (λ o. and_then o (λ vs. and_then (eval e env) (λ t. run (number_from 0 vs) t (λ r w. row_of b n x f env r w)))) r

pub over_start_faults : (a : At) (ls : LegTrees) (e : ExprTree) (b n x : Binder) (f : ExprTree) (env : Env) (m : ExprTree) (lists : List (List Value)) (rows : List Value) → m ≡ loop a ls e b n x f → eval_legs ls env ≡ done lists → rows_of lists ≡ done rows → eval e env ≡ fault → eval m env ≡ fault
over_start_faults a ls e b n x f env m lists rows is q r u =
    ap (λ k. eval k env) is
    ∙ ap (λ o. and_then o (λ legs. and_then (rows_of legs) (λ vs. and_then (eval e env) (λ t. run (number_from 0 vs) t (λ r w. row_of b n x f env r w))))) q
    ∙ ap (λ o. and_then o (λ vs. and_then (eval e env) (λ t. run (number_from 0 vs) t (λ r w. row_of b n x f env r w)))) r
    ∙ ap (λ o. and_then o (λ t. run (number_from 0 rows) t (λ r w. row_of b n x f env r w))) u

-- ---- how many legs there are

pub expr_some : (e : ExprTree) → 1 ≤ expr_nodes e
expr_some (leaf a l) = omega arith
expr_some (one a o e) = omega arith
expr_some (two a o e f) = omega arith
expr_some (three a o c e f) = omega arith
expr_some (many a o es) = omega arith
expr_some (let_in a b e f) = omega arith
expr_some (loop a ls e b n x f) = omega arith
expr_some (iterate a e b f) = omega arith

leg_some : (l : LegTree) → 1 ≤ leg_nodes l
leg_some (whole e) = expr_some e
leg_some (strided e f g h) = let one = expr_some e in omega arith

pub legs_below : (ls : LegTrees) → count_legs ls ≤ legs_nodes ls
legs_below no_legs = omega arith
legs_below (more_legs l ls) = let one = leg_some l in let more = legs_below ls in omega arith

one_list : (o : Outcome (List Value)) (p : Outcome (List (List Value))) (count : ℕ) (lists : List (List Value)) → ((rest : List (List Value)) → p ≡ done rest → length rest ≡ count)
    → and_then o (λ vs. map_out (λ rest. vs ∷ rest) p) ≡ done lists → length lists ≡ suc count
one_list (done vs) (done rest) count lists h q =
    let same : (vs ∷ rest) ≡ lists = cc in sym (ap (λ (l : List (List Value)). length l) same) ∙ ap suc (h rest refl)
one_list (done vs) fault count lists h q = let no : ⊥ = cc in absurd no
one_list (done vs) stuck count lists h q = let no : ⊥ = cc in absurd no
one_list fault p count lists h q = let no : ⊥ = cc in absurd no
one_list stuck p count lists h q = let no : ⊥ = cc in absurd no

lists_count : (ls : LegTrees) (env : Env) (lists : List (List Value)) → eval_legs ls env ≡ done lists → length lists ≡ count_legs ls
lists_count no_legs env lists q = let same : [] ≡ lists = cc in sym (ap (λ (l : List (List Value)). length l) same)
lists_count (more_legs l ls) env lists q = one_list (eval_leg l env) (eval_legs ls env) (count_legs ls) lists (λ rest p. lists_count ls env rest p) q

pub as_many : (a : At) (ls : LegTrees) (e : ExprTree) (b n x : Binder) (f : ExprTree) (env : Env) (m : ExprTree) (hs : List Held) → m ≡ loop a ls e b n x f → LegsAre m env (leg_lists hs) → length hs ≤ legs_count m
as_many a ls e b n x f env m hs is q =
    let same : length (leg_lists hs) ≡ count_legs ls = lists_count ls env (leg_lists hs) (subst (λ k. LegsAre k env (leg_lists hs)) is q) in
    let long : length (leg_lists hs) ≡ length hs = simp length-map in
    subst (λ k. length hs ≤ legs_count k) (sym is) (omega arith)

pub loop_legs_acts : (a : At) (ls : LegTrees) (e : ExprTree) (b n x : Binder) (f : ExprTree) (env : Env) (m : ExprTree) (s : Thing) → m ≡ loop a ls e b n x f → ActFits m env s → LegsRun true ls env
loop_legs_acts a ls e b n x f env m s is h = record { fit = loop_legs_fit a ls e b n x f env m is h.fit; direct = λ t. direct_legs a ls e b n x f m is h.direct }

pub reach_less : (a : At) (ls : LegTrees) (e : ExprTree) (b n x : Binder) (f : ExprTree) (env : Env) (m : ExprTree) (hs : List Held) → m ≡ loop a ls e b n x f → LegsAre m env (leg_lists hs) → 64 * body_nodes m + 42 + length hs < 64 * expr_nodes m
reach_less a ls e b n x f env m hs is q =
    let many : length hs ≤ count_legs ls = subst (λ k. length hs ≤ legs_count k) is (as_many a ls e b n x f env m hs is q) in
    let below = legs_below ls in
    subst (λ k. 64 * body_nodes k + 42 + length hs < 64 * expr_nodes k) (sym is) (omega arith)

pub over_ready : {d : Bool} (a : At) (ls : LegTrees) (e : ExprTree) (b n x : Binder) (f : ExprTree) (env : Env) (m : ExprTree) (lists : List (List Value)) (count : ℕ) (s : Thing)
    → m ≡ loop a ls e b n x f → Runs d m env → LegsAre m env lists → RowsAnswer (Ok count) lists → eval e env ≡ done s → HoldsRange m env lists 0 count s
over_ready a ls e b n x f env m lists count s is h q r u =
    over_holds a ls e b n x f env m lists (forms_rows lists) count s is h.fit (subst (λ k. LegsAre k env lists) is q) r.0 r.1 u

pub over_gives : {T : Type 0} (view : T → Thing) (r : Result T Stop) (a : At) (ls : LegTrees) (e : ExprTree) (b n x : Binder) (f : ExprTree) (env : Env) (m : ExprTree) (lists : List (List Value)) (count : ℕ) (s : Thing)
    → m ≡ loop a ls e b n x f → LegsAre m env lists → RowsAnswer (Ok count) lists → eval e env ≡ done s → Answers view r (range_over m env lists 0 count s) → Answers view r (eval m env)
over_gives view r a ls e b n x f env m lists count s is q p u k =
    subst (Answers view r) (sym (over_is a ls e b n x f env m lists (forms_rows lists) count s is (subst (λ l. LegsAre l env lists) is q) p.0 p.1 u)) k

-- ---- one leg that is lent

pub legs_fit : {d : Bool} (a : At) (ls : LegTrees) (e : ExprTree) (b n x : Binder) (f : ExprTree) (env : Env) (m : ExprTree) → m ≡ loop a ls e b n x f → Runs d m env → LegsAreFit ls env
legs_fit a ls e b n x f env m is h = loop_legs_fit a ls e b n x f env m is h.fit

pub lone_less : (a : At) (ls : LegTrees) (e : ExprTree) (b n x : Binder) (f : ExprTree) (m : ExprTree) → m ≡ loop a ls e b n x f → 64 * body_nodes m + 42 < 64 * expr_nodes m
lone_less a ls e b n x f m is = let one = expr_some e in subst (λ k. 64 * body_nodes k + 42 < 64 * expr_nodes k) (sym is) (omega arith)

pub lone_ready : {d : Bool} (a : At) (ls : LegTrees) (e : ExprTree) (b n x : Binder) (f : ExprTree) (env : Env) (m : ExprTree) (vs : List Value) (s : Thing)
    → m ≡ loop a ls e b n x f → Runs d m env → LegsAre m env (vs ∷ []) → eval e env ≡ done s → HoldsRange m env (vs ∷ []) 0 (length vs) s
lone_ready a ls e b n x f env m vs s is h q u = over_holds a ls e b n x f env m (vs ∷ []) vs (length vs) s is h.fit (subst (λ k. LegsAre k env (vs ∷ [])) is q) refl refl u

lone_is : (a : At) (ls : LegTrees) (e : ExprTree) (b n x : Binder) (f : ExprTree) (env : Env) (m : ExprTree) (vs : List Value) (s : Thing)
    → m ≡ loop a ls e b n x f → LegsAre m env (vs ∷ []) → eval e env ≡ done s → eval m env ≡ range_over m env (vs ∷ []) 0 (length vs) s
lone_is a ls e b n x f env m vs s is q u = over_is a ls e b n x f env m (vs ∷ []) vs (length vs) s is (subst (λ k. LegsAre k env (vs ∷ [])) is q) refl refl u

pub lone_gives : {T : Type 0} (view : T → Thing) (r : Result T Stop) (a : At) (ls : LegTrees) (e : ExprTree) (b n x : Binder) (f : ExprTree) (env : Env) (m : ExprTree) (vs : List Value) (s : Thing)
    → m ≡ loop a ls e b n x f → LegsAre m env (vs ∷ []) → eval e env ≡ done s → Answers view r (range_over m env (vs ∷ []) 0 (length vs) s) → Answers view r (eval m env)
lone_gives view r a ls e b n x f env m vs s is q u k = subst (Answers view r) (sym (lone_is a ls e b n x f env m vs s is q u)) k

pub lone_start_faults : (a : At) (ls : LegTrees) (e : ExprTree) (b n x : Binder) (f : ExprTree) (env : Env) (m : ExprTree) (vs : List Value) → m ≡ loop a ls e b n x f → LegsAre m env (vs ∷ []) → eval e env ≡ fault → eval m env ≡ fault
lone_start_faults a ls e b n x f env m vs is q u = over_start_faults a ls e b n x f env m (vs ∷ []) vs is (subst (λ k. LegsAre k env (vs ∷ [])) is q) refl u

pub start_fits : {d : Bool} (a : At) (ls : LegTrees) (e : ExprTree) (b n x : Binder) (f : ExprTree) (env : Env) (m : ExprTree) → m ≡ loop a ls e b n x f → Runs d m env → IsFit e env
start_fits a ls e b n x f env m is h = loop_builder_fits a ls e b n x f env m is h.fit

pub lone_starts : {d : Bool} (a : At) (ls : LegTrees) (e : ExprTree) (b n x : Binder) (f : ExprTree) (env : Env) (m : ExprTree) (vs : List Value) (s : Thing)
    → m ≡ loop a ls e b n x f → Runs d m env → eval_legs ls env ≡ done (vs ∷ []) → eval e env ≡ done s → HoldsRange m env (vs ∷ []) 0 (length vs) s
lone_starts a ls e b n x f env m vs s is h q u = lone_ready a ls e b n x f env m vs s is h (subst (λ k. LegsAre k env (vs ∷ [])) (sym is) q) u

pub lone_done : (a : At) (ls : LegTrees) (e : ExprTree) (b n x : Binder) (f : ExprTree) (env : Env) (m : ExprTree) (vs : List Value) (s t : Thing)
    → m ≡ loop a ls e b n x f → eval_legs ls env ≡ done (vs ∷ []) → eval e env ≡ done s → range_over m env (vs ∷ []) 0 (length vs) s ≡ done t → eval m env ≡ done t
lone_done a ls e b n x f env m vs s t is q u r = lone_is a ls e b n x f env m vs s is (subst (λ k. LegsAre k env (vs ∷ [])) (sym is) q) u ∙ r

pub lone_faults : (a : At) (ls : LegTrees) (e : ExprTree) (b n x : Binder) (f : ExprTree) (env : Env) (m : ExprTree) (vs : List Value) (s : Thing)
    → m ≡ loop a ls e b n x f → eval_legs ls env ≡ done (vs ∷ []) → eval e env ≡ done s → range_over m env (vs ∷ []) 0 (length vs) s ≡ fault → eval m env ≡ fault
lone_faults a ls e b n x f env m vs s is q u r = lone_is a ls e b n x f env m vs s is (subst (λ k. LegsAre k env (vs ∷ [])) (sym is) q) u ∙ r

-- ---- links of legs

link_at : (hs : List Held) (i : ℕ) (h : Held) → i < length hs → h ≡ get_or hs i h → drop i (leg_lists hs) ≡ elements_in h ∷ drop (i + 1) (leg_lists hs)
link_at [] i h lt e = absurd (omega arith)
link_at (g ∷ hs) zero h lt e = ap (λ k. elements_in k ∷ leg_lists hs) (sym e)
link_at (g ∷ hs) (suc i) h lt e =
    let more : suc (i + 1) ≡ suc i + 1 = omega arith in link_at hs i h (omega arith) e ∙ ap (λ n. elements_in h ∷ drop n (leg_lists (g ∷ hs))) more

pub linked : (hs : List Held) (left i : ℕ) (h : Held) (vs : List Value) (lists : List (List Value)) → i + 1 ≡ left → left ≤ length hs → h ≡ get_or hs i h → vs ≡ elements_in h → lists ≡ drop left (leg_lists hs) → (vs ∷ lists) ≡ drop i (leg_lists hs)
linked hs left i h vs lists next le at same rest =
    ap (λ v. v ∷ lists) same ∙ ap (λ l. elements_in h ∷ l) (rest ∙ ap (λ k. drop k (leg_lists hs)) (sym next)) ∙ sym (link_at hs i h (omega arith) at)

pub all_linked : (hs : List Held) → [] ≡ drop (length hs) (leg_lists hs)
all_linked [] = refl
all_linked (h ∷ hs) = all_linked hs
