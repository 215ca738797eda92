-- Nodes that are made again of their parts: what is known of a node is known of it at any place; and loops by the parts that are handed on.
use Rattle.std.proofs.Common.{◌≡◌, Bool, true, false, ◌∷◌, ℕ, ◌+◌, ◌*◌, ◌<◌, ◌≤◌, List, [], length, Result, Ok, refl, sym, ap, ◌∙◌, subst, arith}
use Rattle.weld_data.specs.Value.{Value}
use Rattle.weld_data.specs.declared.stop.Stop.{Stop}
use Rattle.weld_tree.specs.declared.binder.Binder.{Binder}
use Rattle.weld_tree.specs.ExprFalls.{expr_nodes, legs_nodes}
use Rattle.weld_tree.specs.ExprTree.{ExprTree, ExprTrees, LegTrees, At, one, two, three, many, let_in, loop, iterate, One, Two, binary, and, or, look_up, key_exists, merge, Three, if_else, select, slice, Many, make_vec, make_struct, pack_exprs}
use Rattle.weld_builders.specs.Outcome.{done, fault, and_then, map_out}
use Rattle.weld_meaning.specs.Thing.{Thing, plain}
use Rattle.weld_meaning.specs.Evaluation.{Env, eval, eval_legs, rows_of, value_out, turn_limit}
use Rattle.weld_meaning.specs.Evaluation.{turns as turns_of}
use Rattle.weld_eval.specs.Answers.{Answers}
use Rattle.weld_eval.specs.Fit.{LegsAreFit}
use Rattle.weld_eval.specs.Takes.{IsStrict, IsPlain}
use Rattle.weld_eval.specs.declared.thing.Held.{Held}
use Rattle.weld_eval_forms.specs.Legs.{leg_lists, rows_in, RowsAnswer}
use Rattle.weld_eval_plain.specs.Nodes.{IsEitherForm, IsLoop, IsIterate}
use Rattle.weld_eval_plain.specs.Rows.{LegsAre}
use Rattle.weld_eval_plain.specs.Turns.{HoldsState, turns_from}
use Rattle.weld_eval_plain.proofs.Turns as turns
use Rattle.weld_eval_plain.proofs.Rows.{loop_legs_fit, loop_builder_fits, legs_there, loop_legs_fault}
use Rattle.weld_acts.specs.Act.{Acts, act}
use Rattle.weld_acts.specs.ActFits.{ActFits}
use Rattle.weld_acts.specs.Ranges.{HoldsRange, range_over}
use Rattle.weld_acts.proofs.Children.{loop_part_acts, loop_part_faults}
use Rattle.weld_acts.proofs.Children as acts
use Rattle.weld_rows.specs.Nodes.{anywhere, either_form, IsPairOf, IsLoopOf, IsLoopFrom, IsIterateOf}
use Rattle.weld_rows.specs.RowActs.{body_nodes, legs_count}
use Rattle.weld_rows.specs.Runs.{Runs, RunsNumber, LegsRun}
use Rattle.weld_rows.proofs.Parts as parts
use Rattle.weld_rows.proofs.Values as values
use Rattle.weld_rows.proofs.ActLemmas as steps

-- ---- at any place

pub one_runs : {d : Bool} (a : At) (o : One) (e : ExprTree) (env : Env) (n : ExprTree) → n ≡ one a o e → Runs d n env → Runs d (one anywhere o e) env
one_runs {d} a o e env n is h =
    let k : Runs d (one a o e) env = subst (λ m. Runs d m env) is h in
    record { fit = record { names = k.fit.names; origins = k.fit.origins; named = k.fit.named; answer = k.fit.answer; typed = k.fit.typed; keeps = k.fit.keeps }; direct = k.direct }

pub two_runs : {d : Bool} (a : At) (o : Two) (e f : ExprTree) (env : Env) (n : ExprTree) → n ≡ two a o e f → Runs d n env → Runs d (two anywhere o e f) env
two_runs {d} a o e f env n is h =
    let k : Runs d (two a o e f) env = subst (λ m. Runs d m env) is h in
    record { fit = record { names = k.fit.names; origins = k.fit.origins; named = k.fit.named; answer = k.fit.answer; typed = k.fit.typed; keeps = k.fit.keeps }; direct = k.direct }

pub three_runs : {d : Bool} (a : At) (o : Three) (c e f : ExprTree) (env : Env) (n : ExprTree) → n ≡ three a o c e f → Runs d n env → Runs d (three anywhere o c e f) env
three_runs {d} a o c e f env n is h =
    let k : Runs d (three a o c e f) env = subst (λ m. Runs d m env) is h in
    record { fit = record { names = k.fit.names; origins = k.fit.origins; named = k.fit.named; answer = k.fit.answer; typed = k.fit.typed; keeps = k.fit.keeps }; direct = k.direct }

pub many_runs : {d : Bool} (a : At) (o : Many) (es : ExprTrees) (env : Env) (n : ExprTree) → n ≡ many a o es → Runs d n env → Runs d (many anywhere o es) env
many_runs {d} a o es env n is h =
    let k : Runs d (many a o es) env = subst (λ m. Runs d m env) is h in
    record { fit = record { names = k.fit.names; origins = k.fit.origins; named = k.fit.named; answer = k.fit.answer; typed = k.fit.typed; keeps = k.fit.keeps }; direct = k.direct }

pub let_runs : {d : Bool} (a : At) (b : Binder) (e f : ExprTree) (env : Env) (n : ExprTree) → n ≡ let_in a b e f → Runs d n env → Runs d (let_in anywhere b e f) env
let_runs {d} a b e f env n is h =
    let k : Runs d (let_in a b e f) env = subst (λ m. Runs d m env) is h in
    record { fit = record { names = k.fit.names; origins = k.fit.origins; named = k.fit.named; answer = k.fit.answer; typed = k.fit.typed; keeps = k.fit.keeps }; direct = k.direct }

pub one_number_runs : {d : Bool} (a : At) (o : One) (e : ExprTree) (env : Env) (n : ExprTree) → n ≡ one a o e → RunsNumber d n env → RunsNumber d (one anywhere o e) env
one_number_runs {d} a o e env n is h =
    let k : RunsNumber d (one a o e) env = subst (λ m. RunsNumber d m env) is h in
    record { fit = record { names = k.fit.names; origins = k.fit.origins; named = k.fit.named; answer = k.fit.answer; typed = k.fit.typed; keeps = k.fit.keeps }; direct = k.direct; scalar = k.scalar }

pub two_number_runs : {d : Bool} (a : At) (o : Two) (e f : ExprTree) (env : Env) (n : ExprTree) → n ≡ two a o e f → RunsNumber d n env → RunsNumber d (two anywhere o e f) env
two_number_runs {d} a o e f env n is h =
    let k : RunsNumber d (two a o e f) env = subst (λ m. RunsNumber d m env) is h in
    record { fit = record { names = k.fit.names; origins = k.fit.origins; named = k.fit.named; answer = k.fit.answer; typed = k.fit.typed; keeps = k.fit.keeps }; direct = k.direct; scalar = k.scalar }

pub three_number_runs : {d : Bool} (a : At) (o : Three) (c e f : ExprTree) (env : Env) (n : ExprTree) → n ≡ three a o c e f → RunsNumber d n env → RunsNumber d (three anywhere o c e f) env
three_number_runs {d} a o c e f env n is h =
    let k : RunsNumber d (three a o c e f) env = subst (λ m. RunsNumber d m env) is h in
    record { fit = record { names = k.fit.names; origins = k.fit.origins; named = k.fit.named; answer = k.fit.answer; typed = k.fit.typed; keeps = k.fit.keeps }; direct = k.direct; scalar = k.scalar }

-- of the forms that act there is one for each number of parts

pub merge_acts : (a : At) (o : Two) (e f : ExprTree) (env : Env) (n : ExprTree) (s : Thing) → n ≡ two a o e f → ActFits n env s → ActFits (two anywhere merge e f) env s
merge_acts a o e f env n s is h = by o (subst (λ m. ActFits m env s) is h)
  where
    by : (p : Two) → ActFits (two a p e f) env s → ActFits (two anywhere merge e f) env s
    by (binary op) k = absurd k.acts.0
    by and k = absurd k.acts.0
    by or k = absurd k.acts.0
    by look_up k = absurd k.acts.0
    by key_exists k = absurd k.acts.0
    by merge k = record {
      fit = record { names = k.fit.names; origins = k.fit.origins; named = k.fit.named; answer = k.fit.answer; typed = k.fit.typed; keeps = k.fit.keeps };
      direct = k.direct;
      name = k.name;
      path = k.path;
      acts = k.acts;
      builder = k.builder;
      has = k.has;
    }

pub choice_acts : (a : At) (o : Three) (c e f : ExprTree) (env : Env) (n : ExprTree) (s : Thing) → n ≡ three a o c e f → ActFits n env s → ActFits (three anywhere if_else c e f) env s
choice_acts a o c e f env n s is h = by o (subst (λ m. ActFits m env s) is h)
  where
    by : (p : Three) → ActFits (three a p c e f) env s → ActFits (three anywhere if_else c e f) env s
    by if_else k = record {
      fit = record { names = k.fit.names; origins = k.fit.origins; named = k.fit.named; answer = k.fit.answer; typed = k.fit.typed; keeps = k.fit.keeps };
      direct = k.direct;
      name = k.name;
      path = k.path;
      acts = k.acts;
      builder = k.builder;
      has = k.has;
    }
    by select k = absurd k.acts.0
    by slice k = absurd k.acts.0

pub many_acts : (a : At) (o : Many) (es : ExprTrees) (env : Env) (n : ExprTree) (s : Thing) → n ≡ many a o es → ActFits n env s → ActFits (many anywhere make_struct es) env s
many_acts a o es env n s is h = by o (subst (λ m. ActFits m env s) is h)
  where
    by : (p : Many) → ActFits (many a p es) env s → ActFits (many anywhere make_struct es) env s
    by make_vec k = absurd k.acts.0
    by make_struct k = record {
      fit = record { names = k.fit.names; origins = k.fit.origins; named = k.fit.named; answer = k.fit.answer; typed = k.fit.typed; keeps = k.fit.keeps };
      direct = k.direct;
      name = k.name;
      path = k.path;
      acts = k.acts;
      builder = k.builder;
      has = k.has;
    }

pub binding_acts : (a : At) (b : Binder) (e f : ExprTree) (env : Env) (n : ExprTree) (s : Thing) → n ≡ let_in a b e f → ActFits n env s → ActFits (let_in anywhere b e f) env s
binding_acts a b e f env n s is h =
    let k : ActFits (let_in a b e f) env s = subst (λ m. ActFits m env s) is h in record {
      fit = record { names = k.fit.names; origins = k.fit.origins; named = k.fit.named; answer = k.fit.answer; typed = k.fit.typed; keeps = k.fit.keeps };
      direct = k.direct;
      name = k.name;
      path = k.path;
      acts = k.acts;
      builder = k.builder;
      has = k.has;
    }

-- ---- forms of two parts

pub is_either_form : (o : Two) → either_form o ≡ true → IsEitherForm o
is_either_form (binary op) q = let no : ⊥ = cc in absurd no
is_either_form and q = tt
is_either_form or q = tt
is_either_form look_up q = let no : ⊥ = cc in absurd no
is_either_form key_exists q = let no : ⊥ = cc in absurd no
is_either_form merge q = let no : ⊥ = cc in absurd no

pub is_strict_form : (o : Two) → either_form o ≡ false → IsStrict o
is_strict_form (binary op) q = tt
is_strict_form and q = let no : ⊥ = cc in absurd no
is_strict_form or q = let no : ⊥ = cc in absurd no
is_strict_form look_up q = tt
is_strict_form key_exists q = tt
is_strict_form merge q = tt

-- ---- loops

pub loop_is_of : (a : At) (ls : LegTrees) (e : ExprTree) (b n x : Binder) (f : ExprTree) (m : ExprTree) → m ≡ loop a ls e b n x f → IsLoopOf m ls e
loop_is_of a ls e b n x f m is = record { here = a; own = b; count = n; row = x; body = f; is = is }

pub of_is_from : (m : ExprTree) (ls : LegTrees) (e : ExprTree) → IsLoopOf m ls e → IsLoopFrom m e
of_is_from m ls e h = record { legs = ls; loop_of = h }

pub of_is_loop : (m : ExprTree) (ls : LegTrees) (e : ExprTree) → IsLoopOf m ls e → IsLoop m
of_is_loop m ls e h = subst (λ k. IsLoop k) (sym h.is) tt

pub from_is_loop : (m e : ExprTree) → IsLoopFrom m e → IsLoop m
from_is_loop m e h = of_is_loop m h.legs e h.loop_of

pub legs_less : (m : ExprTree) (ls : LegTrees) (e : ExprTree) → IsLoopOf m ls e → legs_nodes ls + 1 ≤ expr_nodes m
legs_less m ls e h = subst (λ k. legs_nodes ls + 1 ≤ expr_nodes k) (sym h.is) (omega arith)

pub start_less : (m e : ExprTree) → IsLoopFrom m e → expr_nodes e + 1 ≤ expr_nodes m
start_less m e h = subst (λ k. expr_nodes e + 1 ≤ expr_nodes k) (sym h.loop_of.is) (omega arith)

pub legs_are : (m : ExprTree) (ls : LegTrees) (e : ExprTree) (env : Env) (lists : List (List Value)) → IsLoopOf m ls e → eval_legs ls env ≡ done lists → LegsAre m env lists
legs_are m ls e env lists h q = subst (λ k. LegsAre k env lists) (sym h.is) q

-- its legs

pub legs_fit : {d : Bool} (m : ExprTree) (ls : LegTrees) (e : ExprTree) (env : Env) → IsLoopOf m ls e → Runs d m env → LegsAreFit ls env
legs_fit m ls e env h k = loop_legs_fit h.here ls e h.own h.count h.row h.body env m h.is k.fit

pub legs_act_fit : (m : ExprTree) (ls : LegTrees) (e : ExprTree) (env : Env) (s : Thing) → IsLoopOf m ls e → ActFits m env s → LegsAreFit ls env
legs_act_fit m ls e env s h k = loop_legs_fit h.here ls e h.own h.count h.row h.body env m h.is k.fit

pub legs_run : {d : Bool} (m : ExprTree) (ls : LegTrees) (e : ExprTree) (env : Env) → IsLoopOf m ls e → Runs d m env → LegsRun d ls env
legs_run m ls e env h k = values.loop_legs_run h.here ls e h.own h.count h.row h.body env m h.is k

pub legs_run_acts : (m : ExprTree) (ls : LegTrees) (e : ExprTree) (env : Env) (s : Thing) → IsLoopOf m ls e → ActFits m env s → LegsRun true ls env
legs_run_acts m ls e env s h k = values.loop_legs_acts h.here ls e h.own h.count h.row h.body env m s h.is k

pub legs_fault : (m : ExprTree) (ls : LegTrees) (e : ExprTree) (env : Env) → IsLoopOf m ls e → eval_legs ls env ≡ fault → eval m env ≡ fault
legs_fault m ls e env h q = loop_legs_fault h.here ls e h.own h.count h.row h.body env m h.is q

pub legs_fault_acts : (m : ExprTree) (ls : LegTrees) (e : ExprTree) (env : Env) (s : Thing) → IsLoopOf m ls e → eval_legs ls env ≡ fault → act m env s ≡ fault
legs_fault_acts m ls e env s h q = acts.loop_legs_fault h.here ls e h.own h.count h.row h.body env m s h.is q

-- its builder

pub start_runs : {d : Bool} (m e : ExprTree) (env : Env) → IsLoopFrom m e → Runs d m env → Runs d e env
start_runs m e env h k = let p = h.loop_of in values.loop_start_runs p.here h.legs e p.own p.count p.row p.body env m p.is k

pub start_acts : (m e : ExprTree) (env : Env) (s : Thing) → IsLoopFrom m e → ActFits m env s → ActFits e env s
start_acts m e env s h k = let p = h.loop_of in loop_part_acts p.here h.legs e p.own p.count p.row p.body env m s p.is k

-- its rows, over legs that are evaluated

pub over_count : {d : Bool} (m e : ExprTree) (env : Env) (hs : List Held) → IsLoopFrom m e → Runs d m env → LegsAre m env (leg_lists hs) → 0 < length hs
over_count m e env hs h k q = let p = h.loop_of in legs_there p.here h.legs e p.own p.count p.row p.body env m hs p.is k.fit q

pub act_over_count : (m e : ExprTree) (env : Env) (s : Thing) (hs : List Held) → IsLoopFrom m e → ActFits m env s → LegsAre m env (leg_lists hs) → 0 < length hs
act_over_count m e env s hs h k q = let p = h.loop_of in legs_there p.here h.legs e p.own p.count p.row p.body env m hs p.is k.fit q

pub as_many : (m e : ExprTree) (env : Env) (hs : List Held) → IsLoopFrom m e → LegsAre m env (leg_lists hs) → length hs ≤ legs_count m
as_many m e env hs h q = let p = h.loop_of in values.as_many p.here h.legs e p.own p.count p.row p.body env m hs p.is q

pub reach_less : (m e : ExprTree) (env : Env) (hs : List Held) → IsLoopFrom m e → LegsAre m env (leg_lists hs) → 64 * body_nodes m + 42 + length hs < 64 * expr_nodes m
reach_less m e env hs h q = let p = h.loop_of in values.reach_less p.here h.legs e p.own p.count p.row p.body env m hs p.is q

pub over_ready : {d : Bool} (m e : ExprTree) (env : Env) (lists : List (List Value)) (count : ℕ) (s : Thing) → IsLoopFrom m e → Runs d m env → LegsAre m env lists → RowsAnswer (Ok count) lists → eval e env ≡ done s → HoldsRange m env lists 0 count s
over_ready m e env lists count s h k q r u = let p = h.loop_of in values.over_ready p.here h.legs e p.own p.count p.row p.body env m lists count s p.is k q r u

pub over_gives : {T : Type 0} (view : T → Thing) (r : Result T Stop) (m e : ExprTree) (env : Env) (lists : List (List Value)) (count : ℕ) (s : Thing)
    → IsLoopFrom m e → LegsAre m env lists → RowsAnswer (Ok count) lists → eval e env ≡ done s → Answers view r (range_over m env lists 0 count s) → Answers view r (eval m env)
over_gives view r m e env lists count s h q k u v = let p = h.loop_of in values.over_gives view r p.here h.legs e p.own p.count p.row p.body env m lists count s p.is q k u v

pub over_rows_fault : (m e : ExprTree) (env : Env) (lists : List (List Value)) → IsLoopFrom m e → LegsAre m env lists → rows_of lists ≡ fault → eval m env ≡ fault
over_rows_fault m e env lists h q k = let p = h.loop_of in values.over_rows_fault p.here h.legs e p.own p.count p.row p.body env m lists p.is (subst (λ l. LegsAre l env lists) p.is q) k

pub over_start_faults : (m e : ExprTree) (env : Env) (lists : List (List Value)) (count : ℕ) → IsLoopFrom m e → LegsAre m env lists → RowsAnswer (Ok count) lists → eval e env ≡ fault → eval m env ≡ fault
over_start_faults m e env lists count h q k u =
    let p = h.loop_of in values.over_start_faults p.here h.legs e p.own p.count p.row p.body env m lists (rows_in lists) p.is (subst (λ l. LegsAre l env lists) p.is q) k.0 u

-- the same in place

pub act_ready : (m e : ExprTree) (env : Env) (s t : Thing) (lists : List (List Value)) (count : ℕ) → IsLoopFrom m e → ActFits m env s → LegsAre m env lists → RowsAnswer (Ok count) lists → act e env s ≡ done t → HoldsRange m env lists 0 count t
act_ready m e env s t lists count h k q r u = let p = h.loop_of in steps.act_over_ready p.here h.legs e p.own p.count p.row p.body env m s t lists count p.is k q r u

pub act_gives : {T : Type 0} (r : Result T Stop) (m e : ExprTree) (env : Env) (s t u : Thing) (lists : List (List Value)) (count : ℕ)
    → IsLoopFrom m e → ActFits m env s → LegsAre m env lists → RowsAnswer (Ok count) lists → act e env s ≡ done t → Acts r (range_over m env lists 0 count t) u → Acts r (act m env s) u
act_gives r m e env s t u lists count h k q w v x = let p = h.loop_of in steps.act_over_gives r p.here h.legs e p.own p.count p.row p.body env m s t u lists count p.is k q w v x

pub act_rows_fault : (m e : ExprTree) (env : Env) (s : Thing) (lists : List (List Value)) → IsLoopFrom m e → LegsAre m env lists → rows_of lists ≡ fault → act m env s ≡ fault
act_rows_fault m e env s lists h q k = let p = h.loop_of in acts.loop_rows_fault p.here h.legs e p.own p.count p.row p.body env m s lists p.is (subst (λ l. LegsAre l env lists) p.is q) k

pub act_start_faults : (m e : ExprTree) (env : Env) (s : Thing) (lists : List (List Value)) (count : ℕ) → IsLoopFrom m e → LegsAre m env lists → RowsAnswer (Ok count) lists → act e env s ≡ fault → act m env s ≡ fault
act_start_faults m e env s lists count h q k u =
    let p = h.loop_of in loop_part_faults p.here h.legs e p.own p.count p.row p.body env m s lists (rows_in lists) p.is (subst (λ l. LegsAre l env lists) p.is q) k.0 u

-- its rows, over one vector that is lent

pub lone_less : (m e : ExprTree) → IsLoopFrom m e → 64 * body_nodes m + 42 < 64 * expr_nodes m
lone_less m e h = let p = h.loop_of in values.lone_less p.here h.legs e p.own p.count p.row p.body m p.is

pub lone_ready : {d : Bool} (m e : ExprTree) (env : Env) (vs : List Value) (s : Thing) → IsLoopFrom m e → Runs d m env → LegsAre m env (vs ∷ []) → eval e env ≡ done s → HoldsRange m env (vs ∷ []) 0 (length vs) s
lone_ready m e env vs s h k q u = let p = h.loop_of in values.lone_ready p.here h.legs e p.own p.count p.row p.body env m vs s p.is k q u

pub lone_gives : {T : Type 0} (view : T → Thing) (r : Result T Stop) (m e : ExprTree) (env : Env) (vs : List Value) (s : Thing)
    → IsLoopFrom m e → LegsAre m env (vs ∷ []) → eval e env ≡ done s → Answers view r (range_over m env (vs ∷ []) 0 (length vs) s) → Answers view r (eval m env)
lone_gives view r m e env vs s h q u k = let p = h.loop_of in values.lone_gives view r p.here h.legs e p.own p.count p.row p.body env m vs s p.is q u k

pub lone_start_faults : (m e : ExprTree) (env : Env) (vs : List Value) → IsLoopFrom m e → LegsAre m env (vs ∷ []) → eval e env ≡ fault → eval m env ≡ fault
lone_start_faults m e env vs h q u = let p = h.loop_of in values.lone_start_faults p.here h.legs e p.own p.count p.row p.body env m vs p.is q u

pub lone_act_ready : (m e : ExprTree) (env : Env) (s t : Thing) (vs : List Value) → IsLoopFrom m e → ActFits m env s → LegsAre m env (vs ∷ []) → act e env s ≡ done t → HoldsRange m env (vs ∷ []) 0 (length vs) t
lone_act_ready m e env s t vs h k q u = let p = h.loop_of in steps.lone_act_ready p.here h.legs e p.own p.count p.row p.body env m s t vs p.is k q u

pub lone_act_gives : {T : Type 0} (r : Result T Stop) (m e : ExprTree) (env : Env) (s t u : Thing) (vs : List Value)
    → IsLoopFrom m e → ActFits m env s → LegsAre m env (vs ∷ []) → act e env s ≡ done t → Acts r (range_over m env (vs ∷ []) 0 (length vs) t) u → Acts r (act m env s) u
lone_act_gives r m e env s t u vs h k q v w = let p = h.loop_of in steps.lone_act_gives r p.here h.legs e p.own p.count p.row p.body env m s t u vs p.is k q v w

pub lone_act_faults : (m e : ExprTree) (env : Env) (s : Thing) (vs : List Value) → IsLoopFrom m e → LegsAre m env (vs ∷ []) → act e env s ≡ fault → act m env s ≡ fault
lone_act_faults m e env s vs h q u = let p = h.loop_of in steps.lone_act_faults p.here h.legs e p.own p.count p.row p.body env m s vs p.is q u

-- ---- turns

pub iterate_is_of : (a : At) (e : ExprTree) (b : Binder) (f : ExprTree) (n : ExprTree) → n ≡ iterate a e b f → IsIterateOf n e
iterate_is_of a e b f n is = record { here = a; binder = b; body = f; is = is }

pub of_is_iterate : (n e : ExprTree) → IsIterateOf n e → IsIterate n
of_is_iterate n e h = subst (λ k. IsIterate k) (sym h.is) tt

pub state_less : (n e : ExprTree) → IsIterateOf n e → expr_nodes e + 1 ≤ expr_nodes n
state_less n e h = subst (λ k. expr_nodes e + 1 ≤ expr_nodes k) (sym h.is) (omega arith)

pub state_runs : {d : Bool} (n e : ExprTree) (env : Env) → IsIterateOf n e → Runs d n env → Runs d e env
state_runs n e env h k = parts.start_runs h.here e h.binder h.body env n h.is k

pub state_is_plain : {d : Bool} (n e : ExprTree) (env : Env) (x : Thing) → IsIterateOf n e → Runs d n env → eval e env ≡ done x → IsPlain x
state_is_plain n e env x h k q = turns.state_is_plain h.here e h.binder h.body env n x h.is k.fit q

pub state_holds : {d : Bool} (n e : ExprTree) (env : Env) (v : Value) → IsIterateOf n e → Runs d n env → eval e env ≡ done (plain v) → HoldsState n env v
state_holds n e env v h k q = turns.state_holds h.here e h.binder h.body env n (plain v) v h.is k.fit q refl

pub turns_start : (n e : ExprTree) (env : Env) (v : Value) → IsIterateOf n e → eval e env ≡ done (plain v) → eval n env ≡ turns_from n env turn_limit v
turns_start n e env v h q = turns.turns_start h.here e h.binder h.body env n (plain v) v h.is q refl

pub state_faults : (n e : ExprTree) (env : Env) → IsIterateOf n e → eval e env ≡ fault → eval n env ≡ fault
state_faults n e env h q =
    ap (λ m. eval m env) h.is ∙ ap (λ o. and_then (value_out o) (λ v. map_out plain (turns_of turn_limit v (λ w. value_out (eval h.body ((h.binder.sym.0, plain w) ∷ env)))))) q

-- ---- a struct of two

pub is_pair_of : (a : At) (es : List ExprTree) (n : ExprTree) → n ≡ many a make_struct (pack_exprs es) → length es ≡ 2 → IsPairOf n es
is_pair_of a es n is long = record { here = a; is = is; two = long }
