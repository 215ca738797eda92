-- A run at a loop.
use Rattle.std.proofs.Common.{◌≡◌, ℕ, zero, suc, ◌+◌, ◌-◌, ◌<◌, Bool, List, [], ◌∷◌, ◌++◌, length, drop, get_or, Result, Ok, Err, Bor, refl, sym, ap, ◌∙◌, subst, arith}
use Rattle.std.proofs.lemmas.List.{length-map}
use Rattle.weld_data.specs.Value.{Value}
use Rattle.weld_data.specs.declared.stop.Stop.{Stop}
use Rattle.weld_data.specs.declared.stop.Stop.TheVariants.{Fault, Memory}
use Rattle.weld_tree.specs.ExprTree.{ExprTree, Two, loop}
use Rattle.weld_builders.specs.Outcome.{Outcome, done, fault, and_then}
use Rattle.weld_meaning.specs.declared.loop_id.LoopId.{LoopId}
use Rattle.weld_meaning.specs.Thing.{Thing, Things, no_things, more_things, first_of, rest_of}
use Rattle.weld_meaning.specs.Evaluation.{Env, eval, value_out, rows_of}
use Rattle.weld_meaning.specs.Meaning.{meaning}
use Rattle.weld_eval.specs.Fit.{IsFit}
use Rattle.weld_eval.specs.RowLists.{rows_in, RowsAnswer}
use Rattle.weld_eval.specs.ThingView.{things_of}
use Rattle.weld_eval.specs.declared.thing.Held.{Held}
use Rattle.weld_eval_forms.specs.Legs.{leg_lists}
use Rattle.weld_eval_plain.specs.Rows.{loop_over, rows_from, HoldsRows}
use Rattle.weld_eval_plain.proofs.Rows.{rows_start, legs_there}
use Rattle.weld_acts.specs.Ranges.{HoldsRange}
use Rattle.weld_acts.proofs.RangeLaw.{evaluation_is}
use Rattle.weld_tree.specs.declared.expr.Expr.{Expr}
use Rattle.weld_plan.specs.StepTree.{StepTree, compute, apply_one, apply_two, apply_three, apply_many, decide, unless, skip, bind, unbind, stride, run_loop, run_turns}
use Rattle.weld_plan.specs.Leads.{GoesOn, IsLoopAt, below_loop, loop_lists, Leads}
use Rattle.weld_plan.specs.PlanView.{view_step, view_steps}
use Rattle.weld_plan.specs.declared.step.Step.{Step}
use Rattle.weld_plan.specs.declared.step.Step.TheVariants as code
use Rattle.weld_plan.specs.declared.plan.Plan.{Plan}
use Rattle.weld_exec.specs.Stacked.{IsSomething, IsTruthOnTop, IsAtLoop, HasPile, CountAnswer, StackAnswer, IsWork, TakesStep}
use Rattle.weld_exec.specs.Run.{IsReady, IsLoopNext, loop_node, node_of, arguments_of, locals, scope, body_outcome, program_meaning, steps_left, rest_left, AtLoop, StandsAt, IsNext, StepAnswer, NextAnswer, IsNoLoop, env_inputs}
use Rattle.weld_exec.specs.declared.env.Env.{Env as State}
use Rattle.weld_exec.proofs.Stepping.{decide_truth, unless_truth, bind_takes, unbind_takes, work_takes}

next_inside : (steps : List Step) (i : ℕ) → IsLoopNext (drop i (view_steps steps)) → i < length steps
next_inside [] zero h = absurd h
next_inside [] (suc i) h = absurd h
next_inside (s ∷ steps) zero h = omega arith
next_inside (s ∷ steps) (suc i) h = let more : i < length steps = next_inside steps i h in omega arith

pub next_there : (steps : List Step) (i : ℕ) → IsLoopNext (drop i (view_steps steps)) → i < length steps
next_there = next_inside

pub tail_of : (l : List StepTree) (i : ℕ) (s : StepTree) (rest : List StepTree) → drop i l ≡ s ∷ rest → drop (i + 1) l ≡ rest
tail_of [] zero s rest q = let no : ⊥ = cc in absurd no
tail_of [] (suc i) s rest q = let no : ⊥ = cc in absurd no
tail_of (x ∷ l) zero s rest q = let same : l ≡ rest = cc in same
tail_of (x ∷ l) (suc i) s rest q =
    let more : suc (i + 1) ≡ suc i + 1 = omega arith in
    sym (ap (λ n. drop n (x ∷ l)) more) ∙ tail_of l i s rest q

-- what a loop means whose legs and builder are evaluated
pub loop_means : (n : ExprTree) (env : Env) (s : Thing) (pile : Things) → IsLoopAt n env s pile → eval n env ≡ loop_over n env (loop_lists n env pile) s
loop_means (loop a ls e b n x f) env s pile h =
    evaluation_is a ls e b n x f (record { node = loop a ls e b n x f; names = env; lists = loop_lists (loop a ls e b n x f) env pile; start = s }) refl h.0 h.1
loop_means _ env s pile h = absurd h

-- its rows, where they were counted
rows_held : (n : ExprTree) (env : Env) (s : Thing) (pile : Things) (count : ℕ) → IsFit n env → IsLoopAt n env s pile → CountAnswer (Ok count) (loop_lists n env pile) → HoldsRows n env (loop_lists n env pile) s count
rows_held (loop a ls e b n x f) env s pile count fit h r =
    rows_start a ls e b n x f env (loop a ls e b n x f) (loop_lists (loop a ls e b n x f) env pile) (rows_in (loop_lists (loop a ls e b n x f) env pile)) s count refl fit h.0 r.0 r.1 h.1
rows_held _ env s pile count fit h r = absurd h

pub loop_next : (n : ExprTree) (k : ℕ) (l rest : List StepTree) → l ≡ run_loop n k ∷ rest → IsLoopNext l
loop_next n k l rest q = subst IsLoopNext (sym q) tt

pub node_is : (other n : ExprTree) (k : ℕ) (l rest : List StepTree) → l ≡ run_loop n k ∷ rest → loop_node other l ≡ n
node_is other n k l rest q = ap (loop_node other) q

on_loop : (n : ExprTree) (k : ℕ) (rest : List StepTree) (g ls : Env) (st : Things) (o : Outcome Thing) → Leads (run_loop n k ∷ rest) 0 g ls st o
    → IsSomething st × IsFit n (ls ++ g) × IsLoopAt n (ls ++ g) (first_of st) (rest_of st) × GoesOn (eval n (ls ++ g)) (λ t. Leads rest 0 g ls (more_things t (below_loop n (rest_of st))) o) o
on_loop n k rest g ls no_things o h = absurd h
on_loop n k rest g ls (more_things s st) o h = (tt, h.0, h.1, h.2)

at_loop : (n : ExprTree) (env : Env) (st : Things) → IsSomething st → IsLoopAt n env (first_of st) (rest_of st) → IsAtLoop n env st
at_loop n env no_things i h = absurd i
at_loop n env (more_things s st) i h = h

-- standing at a loop: what counting its rows asks for
pub stands_fit : (p : Plan) (e : State) (n : ExprTree) (k : ℕ) → StandsAt p e (run_loop n k) → IsFit n (scope p e)
stands_fit p e n k h = (on_loop n k (rest_left p e) (arguments_of p e) (locals e) (things_of e.stack) (body_outcome p e) h.leads).1

pub stands_loop : (p : Plan) (e : State) (n : ExprTree) (k : ℕ) → StandsAt p e (run_loop n k) → IsAtLoop n (scope p e) (things_of e.stack)
stands_loop p e n k h =
    let l = on_loop n k (rest_left p e) (arguments_of p e) (locals e) (things_of e.stack) (body_outcome p e) h.leads in
    at_loop n (scope p e) (things_of e.stack) l.0 l.2

-- the run with its number of rows stands at the loop
pub at_is : (p : Plan) (e : State) (count : ℕ) (n : ExprTree) (at : LoopId) → StandsAt p e (run_loop n at.0) → CountAnswer (Ok count) (loop_lists n (scope p e) (rest_of (things_of e.stack))) → AtLoop p (record e { rows = count }) at
at_is p e count n at h counted =
    let l = on_loop n at.0 (rest_left p e) (arguments_of p e) (locals e) (things_of e.stack) (body_outcome p e) h.leads in
    let is : node_of p e ≡ n = node_is p.program.now.body n at.0 (steps_left p e) (rest_left p e) h.left in
    let pile : Things = rest_of (things_of e.stack) in
    let start : Thing = first_of (things_of e.stack) in
    let rows = rows_held n (scope p e) start pile count l.1 l.2 counted in
    let long : length rows.rows ≡ count = rows.count_is in
    let both : (k : HoldsRange n (scope p e) (loop_lists n (scope p e) pile) 0 count start) × (length k.rows ≡ count) =
    (record { fit = rows.fit; has = rows.has; rows = rows.rows; are = rows.are; rows_have = rows.rows_have; ordered = omega arith; within = omega arith }, long) in
    let here : (k : HoldsRange (node_of p e) (scope p e) (loop_lists (node_of p e) (scope p e) pile) 0 count start) × (length k.rows ≡ count) =
    subst (λ (m : ExprTree). (k : HoldsRange m (scope p e) (loop_lists m (scope p e) pile) 0 count start) × (length k.rows ≡ count)) (sym is) both in
    record {
      plan = h.plan;
      rest = rest_left p e;
      left = h.left ∙ ap (λ m. run_loop m at.0 ∷ rest_left p e) (sym is);
      skip = h.skip;
      there = l.0;
      is_loop = subst (λ m. IsLoopAt m (scope p e) start pile) (sym is) l.2;
      holds = here.0;
      counted = here.1;
      goes_on = subst (λ m. GoesOn (eval m (scope p e)) (λ t. Leads (rest_left p e) 0 (arguments_of p e) (locals e) (more_things t (below_loop m pile)) (body_outcome p e)) (body_outcome p e)) (sym is) l.3;
    }

pub goes_fault : {A : Type 0} (P : A → Type 0) (w : Outcome A) (o : Outcome Thing) → GoesOn w P o → w ≡ fault → o ≡ fault
goes_fault P w o h q = subst (λ v. GoesOn v P o) q h

pub goes_done : {A : Type 0} (P : A → Type 0) (w : Outcome A) (o : Outcome Thing) (x : A) → GoesOn w P o → w ≡ done x → P x
goes_done P w o x h q = subst (λ v. GoesOn v P o) q h

-- legs that aren't of one length are a fault of the program
pub legs_fault : (p : Plan) (e : State) (n : ExprTree) (k : ℕ) → StandsAt p e (run_loop n k) → rows_of (loop_lists n (scope p e) (rest_of (things_of e.stack))) ≡ fault → program_meaning p e ≡ fault
legs_fault p e n k h q =
    let l = on_loop n k (rest_left p e) (arguments_of p e) (locals e) (things_of e.stack) (body_outcome p e) h.leads in
    let pile : Things = rest_of (things_of e.stack) in
    let over : eval n (scope p e) ≡ fault = loop_means n (scope p e) (first_of (things_of e.stack)) pile l.2 ∙ ap (λ o. and_then o (λ rows. rows_from n (scope p e) 0 rows (first_of (things_of e.stack)))) q in
    ap value_out (goes_fault (λ t. Leads (rest_left p e) 0 (arguments_of p e) (locals e) (more_things t (below_loop n pile)) (body_outcome p e)) (eval n (scope p e)) (body_outcome p e) l.3 over)

-- ---- counting rows

pub some_vectors : (n : ExprTree) (env : Env) (pile : Things) (hs : List Held) → IsFit n env → HasPile n env pile → leg_lists hs ≡ loop_lists n env pile → 0 < length hs
some_vectors (loop a ls e b n x f) env pile hs h p q = legs_there a ls e b n x f env (loop a ls e b n x f) hs refl h (p.0 ∙ ap done (sym q))
some_vectors _ env pile hs h p q = absurd p

pub count_answer : (r : Result ℕ Stop) (ls ms : List (List Value)) → ls ≡ ms → RowsAnswer r ls → CountAnswer r ms
count_answer (Ok n) ls ms e h = subst (CountAnswer (Ok n)) e h
count_answer (Err Fault) ls ms e h = subst (CountAnswer (Err Fault)) e h
count_answer (Err Memory) ls ms e h = tt

-- ---- the next step, of whatever plan

pub is_next : (p : Plan) (e : State) (s : StepTree) → StandsAt p e s → IsNext e s
is_next p e s h = record { of = p; stands = h }

pub next_decides : (f : Two) (n : ℕ) (e : State) → IsNext e (decide f n) → (c : Bool) × IsTruthOnTop (things_of e.stack) c
next_decides f n e h = decide_truth f n (rest_left h.of e) (arguments_of h.of e) (locals e) (things_of e.stack) (body_outcome h.of e) h.stands.leads

pub next_jumps : (n : ℕ) (e : State) → IsNext e (unless n) → (c : Bool) × IsTruthOnTop (things_of e.stack) c
next_jumps n e h = unless_truth n (rest_left h.of e) (arguments_of h.of e) (locals e) (things_of e.stack) (body_outcome h.of e) h.stands.leads

pub next_binds : (s : ℕ) (e : State) → IsNext e (bind s) → IsSomething (things_of e.stack)
next_binds s e h = bind_takes s (rest_left h.of e) (arguments_of h.of e) (locals e) (things_of e.stack) (body_outcome h.of e) h.stands.leads

pub next_unbinds : (e : State) → IsNext e unbind → 0 < length (locals e)
next_unbinds e h = unbind_takes (rest_left h.of e) (arguments_of h.of e) (locals e) (things_of e.stack) (body_outcome h.of e) h.stands.leads

pub next_works : (s : StepTree) (e : State) → IsWork s → IsNext e s → TakesStep s (things_of e.stack)
next_works s e k h = work_takes s (rest_left h.of e) (arguments_of h.of e) (locals e) (things_of e.stack) (body_outcome h.of e) k h.stands.leads

-- ---- step by step

pub stack_stop : (T U : Type 0) (s : Stop) (w : Outcome Things) (after : Things) (p : Plan) (e new : State) → (w ≡ fault → body_outcome p e ≡ fault) → StackAnswer {T = T} (Err s) w after → StepAnswer {T = U} (Err s) p e new
stack_stop T U Fault w after p e new h q = h q
stack_stop T U Memory w after p e new h q = tt

pub split_at : (l : List StepTree) (i : ℕ) → i < length l → (x : StepTree) × (drop i l ≡ x ∷ drop (i + 1) l)
split_at [] i h = absurd (omega arith)
split_at (x ∷ l) zero h = (x, refl)
split_at (x ∷ l) (suc i) h =
    let r = split_at l i (omega arith) in
    let more : suc (i + 1) ≡ suc i + 1 = omega arith in
    (r.0, r.1 ∙ ap (λ n. r.0 ∷ drop n (x ∷ l)) more)

one_left_out : (l : List StepTree) (i n : ℕ) (g ls : Env) (st : Things) (o : Outcome Thing) → i < length l → 0 < n → Leads (drop i l) n g ls st o → Leads (drop (i + 1) l) (n - 1) g ls st o
one_left_out l i zero g ls st o h k q = absurd (omega arith)
one_left_out l i (suc n) g ls st o h k q =
    let s = split_at l i h in
    let same : n ≡ suc n - 1 = omega arith in
    subst (λ m. Leads (drop (i + 1) l) m g ls st o) same (let r : Leads (s.0 ∷ drop (i + 1) l) (suc n) g ls st o = subst (λ d. Leads d (suc n) g ls st o) s.1 q in r)

pub left_out_on : (p : Plan) (e : State) (rows : ℕ) → IsReady p e → e.at < length p.steps.items → 0 < e.skip → IsReady p (record e { at = e.at + 1; skip = e.skip - 1; rows = rows })
left_out_on p e rows h less some = record {
  plan = h.plan;
  leads = one_left_out (view_steps p.steps.items) e.at e.skip (arguments_of p e) (locals e) (things_of e.stack) (body_outcome p e) (subst (λ n. e.at < n) (sym (length-map p.steps.items view_step)) less) some h.leads;
}

step_there : (l : List Step) (i : ℕ) (s : Step) → i < length l → s ≡ get_or l i s → drop i (view_steps l) ≡ view_step s ∷ drop (i + 1) (view_steps l)
step_there [] i s h e = absurd (omega arith)
step_there (x ∷ l) zero s h e = ap (λ y. view_step y ∷ view_steps l) (sym e)
step_there (x ∷ l) (suc i) s h e =
    let more : suc (i + 1) ≡ suc i + 1 = omega arith in
    step_there l i s (omega arith) e ∙ ap (λ n. view_step s ∷ drop n (view_steps (x ∷ l))) more

pub stands_at : (p : Plan) (e : State) (s : Step) → IsReady p e → e.at < length p.steps.items → e.skip ≡ 0 → s ≡ get_or p.steps.items e.at s → StandsAt p e (view_step s)
stands_at p e s h less none is =
    let left : steps_left p e ≡ view_step s ∷ rest_left p e = step_there p.steps.items e.at s less is in
    record {
      plan = h.plan;
      left = left;
      skip = none;
      leads = subst (λ n. Leads (view_step s ∷ rest_left p e) n (arguments_of p e) (locals e) (things_of e.stack) (body_outcome p e)) none (subst (λ l. Leads l e.skip (arguments_of p e) (locals e) (things_of e.stack) (body_outcome p e)) left h.leads);
    }

no_loop : (s : Step) → ((x : Bor Expr) (k : LoopId) → s ≡ code.Loop x k → ⊥) → IsNoLoop (view_step s)
no_loop (code.Compute e) h = tt
no_loop (code.One o) h = tt
no_loop (code.Two o) h = tt
no_loop (code.Three o) h = tt
no_loop (code.Many o n) h = tt
no_loop (code.Decide o n) h = tt
no_loop (code.Unless n) h = tt
no_loop (code.Skip n) h = tt
no_loop (code.Bind s) h = tt
no_loop code.Unbind h = tt
no_loop code.Stride h = tt
no_loop (code.Loop e k) h = h e k refl
no_loop (code.Turns e) h = tt

pub takes_step : (p : Plan) (e : State) (s : Step) → IsReady p e → e.at < length p.steps.items → e.skip ≡ 0 → s ≡ get_or p.steps.items e.at s → ((x : Bor Expr) (k : LoopId) → s ≡ code.Loop x k → ⊥)
    → StandsAt p e (view_step s) × (e.at < length p.steps.items) × IsNoLoop (view_step s)
takes_step p e s h less none is not = (stands_at p e s h less none is, less, no_loop s not)

loop_or_not : (t : StepTree) (rest : List StepTree) → IsNoLoop t → IsLoopNext (t ∷ rest) → ⊥
loop_or_not (run_loop n k) rest h q = h
loop_or_not (compute e) rest h q = q
loop_or_not (apply_one o) rest h q = q
loop_or_not (apply_two o) rest h q = q
loop_or_not (apply_three o) rest h q = q
loop_or_not (apply_many o n) rest h q = q
loop_or_not (decide o n) rest h q = q
loop_or_not (unless n) rest h q = q
loop_or_not (skip n) rest h q = q
loop_or_not (bind s) rest h q = q
loop_or_not unbind rest h q = q
loop_or_not stride rest h q = q
loop_or_not (run_turns n) rest h q = q

pub is_loop : (l : List Step) (i : ℕ) (s : Step) → IsLoopNext (drop i (view_steps l)) → s ≡ get_or l i s → ((x : Bor Expr) (k : LoopId) → s ≡ code.Loop x k → ⊥) → ⊥
is_loop l i s h e not =
    loop_or_not (view_step s) (drop (i + 1) (view_steps l)) (no_loop s not) (subst IsLoopNext (step_there l i s (next_there l i h) e) h)

pub loop_there : (other : ExprTree) (l : List Step) (i : ℕ) (s : Step) (x : Bor Expr) (k : LoopId) → IsLoopNext (drop i (view_steps l)) → s ≡ get_or l i s → s ≡ code.Loop x k → x.now ≡ loop_node other (drop i (view_steps l))
loop_there other l i s x k h e is =
    sym (ap (loop_node other) (step_there l i s (next_there l i h) e) ∙ ap (λ t. loop_node other (view_step t ∷ drop (i + 1) (view_steps l))) is)

pub next_stop : (T : Type 0) (s : Stop) (p : Plan) (e new : State) → env_inputs new ≡ env_inputs e → StepAnswer {T = T} (Err s) p e new → NextAnswer (Err s) p new
next_stop T Fault p e new same h = ap (λ (vs : List Value). meaning p.program.now vs) same ∙ ap value_out h
next_stop T Memory p e new same h = tt

at_pile : (n : ExprTree) (env : Env) (s : Thing) (pile : Things) → IsAtLoop n env (more_things s pile) → HasPile n env pile
at_pile (loop a ls e b n x f) env s pile h = (h.0, h.2)
at_pile _ env s pile h = absurd h

pub count_some : (n : ExprTree) (g env : Env) (s : Thing) (st pile : Things) (hs ks : List Held) → IsFit n env → IsAtLoop n env st → g ≡ env → st ≡ more_things s pile → leg_lists hs ≡ loop_lists n g pile → ks ≡ hs → 0 < length ks
count_some n g env s st pile hs ks fit at same is lists value =
    subst (λ l. 0 < length l) (sym value) (some_vectors n env pile hs fit (at_pile n env s pile (subst (IsAtLoop n env) is at)) (lists ∙ ap (λ k. loop_lists n k pile) same))
