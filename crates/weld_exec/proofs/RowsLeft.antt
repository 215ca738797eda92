-- A step leaves the rows of the loops behind it as they were.
use Rattle.std.proofs.Common.{◌≡◌, ℕ, zero, suc, ◌+◌, ◌-◌, ◌<◌, List, [], ◌∷◌, drop, length, refl, sym, ap, ap₂, ◌∙◌, subst, arith}
use Rattle.std.proofs.lemmas.List.{length-map}
use Rattle.weld_data.specs.Value.{Value}
use Rattle.weld_tree.specs.ExprTree.{ExprTree}
use Rattle.weld_tree.specs.Program.{ProgramTree}
use Rattle.weld_builders.specs.Outcome.{Outcome, done, fault, stuck}
use Rattle.weld_meaning.specs.declared.loop_id.LoopId.{LoopId}
use Rattle.weld_meaning.specs.Thing.{Thing, Things, no_things, more_things, rest_of}
use Rattle.weld_meaning.specs.Evaluation.{Env, eval, value_out}
use Rattle.weld_meaning.specs.Meaning.{with_arguments, meaning}
use Rattle.weld_eval.specs.RowLists.{or_none, rows_in}
use Rattle.weld_eval.specs.ThingView.{things_of}
use Rattle.weld_acts.specs.Ranges.{Evaluation, IsSoFar}
use Rattle.weld_acts.proofs.RangeLaw.{all_tiles_done}
use Rattle.weld_plan.specs.StepTree.{StepTree, apply_one, apply_two, apply_three, apply_many, stride, run_loop, steps_of}
use Rattle.weld_plan.specs.Leads.{below_loop, loop_lists}
use Rattle.weld_plan.specs.SharedRows.{if_done, program_rows}
use Rattle.weld_plan.specs.StepRows.{rows_of_steps}
use Rattle.weld_plan.specs.PlanView.{view_step, view_steps}
use Rattle.weld_plan.specs.declared.plan.Plan.{Plan}
use Rattle.weld_plan.proofs.Counting.{program_counts}
use Rattle.weld_exec.specs.Stacked.{IsWork, after_step}
use Rattle.weld_exec.specs.Run.{AtLoop, StandsAt, arguments_of, locals, rest_left, rows_at, rows_left, evaluation_of, node_of}
use Rattle.weld_exec.specs.declared.env.Env.{Env as State}
use Rattle.weld_exec.proofs.Looping.{loop_means, split_at, tail_of}

-- ---- one step

work_rows : (s : StepTree) (rest : List StepTree) (g ls : Env) (st after : Things) → IsWork s → after_step s st ≡ done after → rows_of_steps (s ∷ rest) 0 g ls st ≡ rows_of_steps rest 0 g ls after
work_rows (apply_one p) rest g ls st after k q = ap (λ w. if_done w (λ u. rows_of_steps rest 0 g ls u)) q
work_rows (apply_two p) rest g ls st after k q = ap (λ w. if_done w (λ u. rows_of_steps rest 0 g ls u)) q
work_rows (apply_three p) rest g ls st after k q = ap (λ w. if_done w (λ u. rows_of_steps rest 0 g ls u)) q
work_rows (apply_many p n) rest g ls st after k q = ap (λ w. if_done w (λ u. rows_of_steps rest 0 g ls u)) q
work_rows stride rest g ls st after k q = ap (λ w. if_done w (λ u. rows_of_steps rest 0 g ls u)) q
work_rows _ rest g ls st after k q = absurd k

-- ---- where a run stands

rows_stand : (p : Plan) (e : State) (s : StepTree) → StandsAt p e s → rows_left p e ≡ rows_of_steps (s ∷ rest_left p e) 0 (arguments_of p e) (locals e) (things_of e.stack)
rows_stand p e s h = ap₂ (λ l n. rows_of_steps l n (arguments_of p e) (locals e) (things_of e.stack)) h.left h.skip

one_out : (l : List StepTree) (i n : ℕ) (g ls : Env) (st : Things) → i < length l → 0 < n → rows_of_steps (drop (i + 1) l) (n - 1) g ls st ≡ rows_of_steps (drop i l) n g ls st
one_out l i zero g ls st h k = absurd (omega arith)
one_out l i (suc n) g ls st h k =
    let s = split_at l i h in
    let same : suc n - 1 ≡ n = omega arith in
    ap (λ m. rows_of_steps (drop (i + 1) l) m g ls st) same ∙ sym (ap (λ d. rows_of_steps d (suc n) g ls st) s.1)

pub left_out_rows : (p : Plan) (e : State) (rows : ℕ) → e.at < length p.steps.items → 0 < e.skip → rows_left p (record e { at = e.at + 1; skip = e.skip - 1; rows = rows }) ≡ rows_left p e
left_out_rows p e rows less some =
    one_out (view_steps p.steps.items) e.at e.skip (arguments_of p e) (locals e) (things_of e.stack) (subst (λ n. e.at < n) (sym (length-map p.steps.items view_step)) less) some

-- ---- the start

pub rows_start : (p : ProgramTree) (vs : List Value) (steps : List StepTree) (ls : Env) (v : Value) → steps ≡ steps_of p.body 0 → ls ≡ [] → meaning p vs ≡ done v → rows_of_steps steps 0 (with_arguments p.params vs) ls no_things ≡ program_rows p vs
rows_start p vs steps ls v is none q =
    let body = body_done (eval p.body (with_arguments p.params vs)) v q in
    ap₂ (λ s l. rows_of_steps s 0 (with_arguments p.params vs) l no_things) is none ∙ program_counts p vs body.0 body.1
  where
    body_done : (o : Outcome Thing) (v : Value) → value_out o ≡ done v → (t : Thing) × (o ≡ done t)
    body_done (done t) v q = (t, refl)
    body_done fault v q = let no : ⊥ = cc in absurd no
    body_done stuck v q = let no : ⊥ = cc in absurd no

-- ---- behind a loop

pub stored_rows : (p : Plan) (e : State) (at : LoopId) (j : Thing) (n : ExprTree) (mid low after : Things) → AtLoop p e at → IsSoFar (evaluation_of p e) (rows_at e) j → n ≡ node_of p e → mid ≡ rest_of (things_of e.stack) → low ≡ below_loop n mid → after ≡ more_things j low
    → rows_left p e ≡ rows_at e ∷ rows_of_steps (rest_left p e) e.skip (arguments_of p e) (locals e) after
stored_rows p e at j n mid low after h q is m l r =
    let ev : Evaluation = evaluation_of p e in
    let pile : Things = rest_of (things_of e.stack) in
    let means : eval ev.node ev.names ≡ done j = loop_means ev.node ev.names ev.start pile h.is_loop ∙ all_tiles_done ev (rows_at e) j h.holds.rows h.holds.are h.counted q in
    let there : more_things j (below_loop ev.node pile) ≡ after = sym (r ∙ ap (more_things j) (l ∙ ap (λ d. below_loop d mid) is ∙ ap (below_loop ev.node) m)) in
    let count : length (rows_in (loop_lists ev.node ev.names pile)) ≡ rows_at e = ap (λ w. length (or_none w)) h.holds.are ∙ h.counted in
    let tail : h.rest ≡ rest_left p e = sym (tail_of (view_steps p.steps.items) e.at (run_loop ev.node at.0) h.rest h.left) in
    ap₂ (λ s k. rows_of_steps s k (arguments_of p e) (locals e) (things_of e.stack)) h.left h.skip
    ∙ ap₂ (λ c w. c ∷ if_done w (λ t. rows_of_steps h.rest 0 (arguments_of p e) (locals e) (more_things t (below_loop ev.node pile)))) count means
    ∙ ap (λ l. rows_at e ∷ l) (ap₂ (λ s u. rows_of_steps s 0 (arguments_of p e) (locals e) u) tail there ∙ ap (λ k. rows_of_steps (rest_left p e) k (arguments_of p e) (locals e) after) (sym h.skip))

-- ---- behind a step that works on the stack

pub worked_left : (p : Plan) (e : State) (s : StepTree) (after : Things) → StandsAt p e s → IsWork s → after_step s (things_of e.stack) ≡ done after → rows_of_steps (rest_left p e) e.skip (arguments_of p e) (locals e) after ≡ rows_left p e
worked_left p e s after h work q =
    ap (λ n. rows_of_steps (rest_left p e) n (arguments_of p e) (locals e) after) h.skip
    ∙ sym (rows_stand p e s h ∙ work_rows s (rest_left p e) (arguments_of p e) (locals e) (things_of e.stack) after work q)
