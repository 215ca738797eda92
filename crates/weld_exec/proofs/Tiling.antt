-- The tiles of the loop at which a run stands, and what goes behind it.
use Rattle.std.proofs.Common.{◌≡◌, ℕ, ◌+◌, ◌<◌, ◌≤◌, List, length, slice_get, Some, Result, Ok, Err, sym, ap, ◌∙◌, subst, arith}
use Rattle.weld_data.specs.Value.{Value}
use Rattle.weld_data.specs.declared.stop.Stop.{Stop}
use Rattle.weld_data.specs.declared.stop.Stop.TheVariants.{Fault, Memory}
use Rattle.weld_tree.specs.ExprTree.{ExprTree, loop}
use Rattle.weld_builders.specs.Outcome.{done, fault}
use Rattle.weld_meaning.specs.declared.loop_id.LoopId.{LoopId}
use Rattle.weld_meaning.specs.Thing.{Thing, Things, more_things, first_of, rest_of, bare_thing}
use Rattle.weld_meaning.specs.Evaluation.{Env, eval, value_out, rows_of}
use Rattle.weld_eval.specs.Answers.{OnFault}
use Rattle.weld_eval.specs.RowLists.{or_none, rows_in}
use Rattle.weld_eval.specs.ThingView.{things_of}
use Rattle.weld_eval_plain.specs.Nodes.{IsLoop}
use Rattle.weld_eval_plain.specs.Rows.{HoldsRow, RowAnswer, row_step}
use Rattle.weld_acts.specs.Ranges.{Evaluation, HoldsRange, RangeAnswer, IsAction, IsSoFar, range_over}
use Rattle.weld_acts.proofs.RangeLaw.{tile_holds, so_far_starts, all_tiles_done, loop_faults}
use Rattle.weld_acts.proofs.RangeSteps.{RunsIn, range_row, range_on, range_fault}
use Rattle.weld_tiles.specs.declared.tile.Tile.{Tile}
use Rattle.weld_tile_parts.specs.Kept.{IsTileOf}
use Rattle.weld_plan.specs.StepTree.{run_loop}
use Rattle.weld_plan.specs.Leads.{IsLoopAt, below_loop, loop_lists, Leads}
use Rattle.weld_plan.specs.PlanView.{view_steps}
use Rattle.weld_plan.specs.declared.plan.Plan.{Plan}
use Rattle.weld_exec.specs.Stacked.{IsSomething, HasPile, AreThereAt}
use Rattle.weld_exec.specs.Run.{IsLoopNext, node_of, evaluation_of, rows_at, arguments_of, locals, scope, body_outcome, program_meaning, steps_left, rest_left, AtLoop, IsAtALoop, TileAnswer}
use Rattle.weld_exec.specs.declared.env.Env.{Env as State}
use Rattle.weld_exec.proofs.Looping.{loop_means, loop_next, goes_done, goes_fault, tail_of}

-- ---- what stands there

pub at_next : (p : Plan) (e : State) (at : LoopId) → AtLoop p e at → IsLoopNext (steps_left p e)
at_next p e at h = loop_next (evaluation_of p e).node at.0 (steps_left p e) h.rest h.left

pub at_something : (p : Plan) (e : State) (at : LoopId) → AtLoop p e at → IsSomething (things_of e.stack)
at_something p e at h = h.there

pub at_a_loop : (p : Plan) (e : State) (at : LoopId) → AtLoop p e at → IsAtALoop p e
at_a_loop p e at h = record { at = at; stands = h }

pub some_next : (p : Plan) (e : State) → IsAtALoop p e → IsLoopNext (steps_left p e)
some_next p e h = at_next p e h.at h.stands

pub some_there : (p : Plan) (e : State) → IsAtALoop p e → IsSomething (things_of e.stack)
some_there p e h = h.stands.there

has_pile : (n : ExprTree) (env : Env) (s : Thing) (st : Things) → IsLoopAt n env s st → HasPile n env st
has_pile (loop a ls e b n x f) env s st h = (h.0, h.2)
has_pile _ env s st h = absurd h

there_at : (n : ExprTree) (env : Env) (s : Thing) (st : Things) → IsLoopAt n env s st → AreThereAt n st
there_at (loop a ls e b n x f) env s st h = h.2
there_at _ env s st h = absurd h

pub pile_loop : (n : ExprTree) (env : Env) (st : Things) → HasPile n env st → IsLoop n
pile_loop (loop a ls e b n x f) env st h = tt
pile_loop _ env st h = absurd h

pub vectors_there : (p : Plan) (e : State) (at : LoopId) (n : ExprTree) (mid : Things) → AtLoop p e at → n ≡ node_of p e → mid ≡ rest_of (things_of e.stack) → AreThereAt n mid
vectors_there p e at n mid h is m =
    subst (λ d. AreThereAt d mid) (sym is) (subst (λ u. AreThereAt (node_of p e) u) (sym m) (there_at (node_of p e) (scope p e) (first_of (things_of e.stack)) (rest_of (things_of e.stack)) h.is_loop))

-- ---- behind the loop

pub so_far_as : (ev at : Evaluation) (k rows : ℕ) (j : Thing) → at ≡ ev → k ≡ rows → IsSoFar at k j → IsSoFar ev rows j
so_far_as ev at k rows j e r q = subst (λ d. IsSoFar d rows j) e (subst (λ i. IsSoFar at i j) r q)

pub stored : (p : Plan) (e : State) (at : LoopId) (j : Thing) (n : ExprTree) (mid low after : Things) → AtLoop p e at → IsSoFar (evaluation_of p e) (rows_at e) j → n ≡ node_of p e → mid ≡ rest_of (things_of e.stack) → low ≡ below_loop n mid → after ≡ more_things j low
    → Leads (rest_left p e) e.skip (arguments_of p e) (locals e) after (body_outcome p e)
stored p e at j n mid low after h q is m l r =
    let ev : Evaluation = evaluation_of p e in
    let means : eval ev.node ev.names ≡ done j = loop_means ev.node ev.names ev.start (rest_of (things_of e.stack)) h.is_loop ∙ all_tiles_done ev (rows_at e) j h.holds.rows h.holds.are h.counted q in
    let on : Leads h.rest 0 (arguments_of p e) (locals e) (more_things j (below_loop ev.node (rest_of (things_of e.stack)))) (body_outcome p e) =
    goes_done (λ t. Leads h.rest 0 (arguments_of p e) (locals e) (more_things t (below_loop ev.node (rest_of (things_of e.stack)))) (body_outcome p e)) (eval ev.node ev.names) (body_outcome p e) j h.goes_on means in
    let there : after ≡ more_things j (below_loop ev.node (rest_of (things_of e.stack))) = r ∙ ap (more_things j) (l ∙ ap (λ d. below_loop d mid) is ∙ ap (below_loop ev.node) m) in
    subst (λ u. Leads (rest_left p e) e.skip (arguments_of p e) (locals e) u (body_outcome p e)) (sym there)
    (subst (λ k. Leads (rest_left p e) k (arguments_of p e) (locals e) (more_things j (below_loop ev.node (rest_of (things_of e.stack)))) (body_outcome p e)) (sym h.skip)
    (subst (λ s. Leads s 0 (arguments_of p e) (locals e) (more_things j (below_loop ev.node (rest_of (things_of e.stack)))) (body_outcome p e)) (sym (tail_of (view_steps p.steps.items) e.at (run_loop ev.node at.0) h.rest h.left)) on))

pub begins : (p : Plan) (e : State) (at : LoopId) (s : Thing) → AtLoop p e at → s ≡ first_of (things_of e.stack) → IsSoFar (evaluation_of p e) 0 s
begins p e at s h is = subst (IsSoFar (evaluation_of p e) 0) (sym is) (so_far_starts (evaluation_of p e) (rows_at e) h.holds)

-- ---- tiles

pub tile_of : (p : Plan) (e : State) (lo hi : ℕ) → IsAtALoop p e → lo ≤ hi → hi ≤ rows_at e → IsTileOf (evaluation_of p e) lo hi
tile_of p e lo hi h low high = record { count = rows_at e; holds = h.stands.holds; ordered = low; within = high }

pub pile_ready : (p : Plan) (e : State) (n : ExprTree) (g : Env) (s : Thing) (pile : Things) → IsAtALoop p e → n ≡ node_of p e → g ≡ scope p e → things_of e.stack ≡ more_things s pile → HasPile n g pile
pile_ready p e n g s pile h is gs st =
    subst (λ d. HasPile d g pile) (sym is) (subst (λ k. HasPile (node_of p e) k pile) (sym gs) (subst (λ u. HasPile (node_of p e) (scope p e) (rest_of u)) st (has_pile (node_of p e) (scope p e) (first_of (things_of e.stack)) (rest_of (things_of e.stack)) h.stands.is_loop)))

-- the rows of the evaluation at which the run stands, by what stands there
range_same : (p : Plan) (e : State) (n : ExprTree) (g : Env) (s x : Thing) (pile : Things) (lo hi : ℕ) → n ≡ node_of p e → g ≡ scope p e → things_of e.stack ≡ more_things s pile
    → range_over (node_of p e) (scope p e) (loop_lists (node_of p e) (scope p e) (rest_of (things_of e.stack))) lo hi x ≡ range_over n g (loop_lists n g pile) lo hi x
range_same p e n g s x pile lo hi is gs st =
    ap (λ u. range_over (node_of p e) (scope p e) (loop_lists (node_of p e) (scope p e) (rest_of u)) lo hi x) st
    ∙ ap (λ k. range_over (node_of p e) k (loop_lists (node_of p e) k pile) lo hi x) (sym gs)
    ∙ ap (λ d. range_over d g (loop_lists d g pile) lo hi x) (sym is)

pub range_ready : (p : Plan) (e : State) (n : ExprTree) (g : Env) (s x : Thing) (pile : Things) (lo hi : ℕ) → n ≡ node_of p e → g ≡ scope p e → things_of e.stack ≡ more_things s pile
    → HoldsRange (node_of p e) (scope p e) (loop_lists (node_of p e) (scope p e) (rest_of (things_of e.stack))) lo hi x → HoldsRange n g (loop_lists n g pile) lo hi x
range_ready p e n g s x pile lo hi is gs st h =
    subst (λ d. HoldsRange d g (loop_lists d g pile) lo hi x) (sym is)
    (subst (λ k. HoldsRange (node_of p e) k (loop_lists (node_of p e) k pile) lo hi x) (sym gs)
    (subst (λ u. HoldsRange (node_of p e) (scope p e) (loop_lists (node_of p e) (scope p e) (rest_of u)) lo hi x) st h))

pub range_answers : (T : Type 0) (r : Result T Stop) (p : Plan) (e : State) (n : ExprTree) (g : Env) (s x y : Thing) (pile : Things) (lo hi : ℕ) → n ≡ node_of p e → g ≡ scope p e → things_of e.stack ≡ more_things s pile
    → RangeAnswer {T = T} r (record { node = n; names = g; lists = loop_lists n g pile; start = x }) lo hi x y → RangeAnswer {T = T} r (evaluation_of p e) lo hi x y
range_answers T (Ok v) p e n g s x y pile lo hi is gs st h = range_same p e n g s x pile lo hi is gs st ∙ h
range_answers T (Err Fault) p e n g s x y pile lo hi is gs st h = range_same p e n g s x pile lo hi is gs st ∙ h
range_answers T (Err Memory) p e n g s x y pile lo hi is gs st h = tt

pub tile_means : (p : Plan) (e : State) (at : LoopId) (lo hi : ℕ) → AtLoop p e at → lo ≤ hi → hi ≤ rows_at e → range_over (node_of p e) (scope p e) (loop_lists (node_of p e) (scope p e) (rest_of (things_of e.stack))) lo hi (bare_thing (first_of (things_of e.stack))) ≡ fault
    → program_meaning p e ≡ fault
tile_means p e at lo hi h low high q =
    let ev : Evaluation = evaluation_of p e in
    ap value_out (goes_fault (λ t. Leads h.rest 0 (arguments_of p e) (locals e) (more_things t (below_loop ev.node (rest_of (things_of e.stack)))) (body_outcome p e)) (eval ev.node ev.names) (body_outcome p e) h.goes_on
    (loop_means ev.node ev.names ev.start (rest_of (things_of e.stack)) h.is_loop ∙ loop_faults ev (rows_at e) lo hi h.holds.rows h.holds h.holds.are h.counted low high q))

-- what lets rows be run from the builder that has nothing merged
pub bare_ready : (p : Plan) (e : State) (at : LoopId) (x : Thing) (lo hi : ℕ) → AtLoop p e at → lo ≤ hi → hi ≤ rows_at e → x ≡ bare_thing (evaluation_of p e).start
    → HoldsRange (evaluation_of p e).node (evaluation_of p e).names (evaluation_of p e).lists lo hi x
bare_ready p e at x lo hi h low high is =
    subst (λ s. HoldsRange (evaluation_of p e).node (evaluation_of p e).names (evaluation_of p e).lists lo hi s) (sym is) (tile_holds (evaluation_of p e) (rows_at e) lo hi h.holds low high)

pub bare_action : (p : Plan) (e : State) (x d : Thing) (lo hi : ℕ) → x ≡ bare_thing (evaluation_of p e).start → range_over (evaluation_of p e).node (evaluation_of p e).names (evaluation_of p e).lists lo hi x ≡ done d → IsAction (evaluation_of p e) lo hi d
bare_action p e x d lo hi is q = ap (λ s. range_over (evaluation_of p e).node (evaluation_of p e).names (evaluation_of p e).lists lo hi s) (sym is) ∙ q

-- where they stop
pub bare_answers : (T : Type 0) (stop : Stop) (p : Plan) (e : State) (x y : Thing) (tile : Tile) → x ≡ bare_thing (evaluation_of p e).start → RangeAnswer {T = T} (Err stop) (evaluation_of p e) tile.lo tile.hi x y → TileAnswer (Err stop) (evaluation_of p e) tile
bare_answers T Fault p e x y tile is q = ap (λ s. range_over (evaluation_of p e).node (evaluation_of p e).names (evaluation_of p e).lists tile.lo tile.hi s) (sym is) ∙ q
bare_answers T Memory p e x y tile is q = tt

pub bare_stops : (T U : Type 0) (stop : Stop) (p : Plan) (e : State) (at : LoopId) (x y : Thing) (lo hi : ℕ) → AtLoop p e at → lo ≤ hi → hi ≤ rows_at e → x ≡ bare_thing (evaluation_of p e).start
    → RangeAnswer {T = T} (Err stop) (evaluation_of p e) lo hi x y → OnFault {T = U} (Err stop) (program_meaning p e ≡ fault)
bare_stops T U Fault p e at x y lo hi h low high is q = tile_means p e at lo hi h low high (ap (λ s. range_over (evaluation_of p e).node (evaluation_of p e).names (evaluation_of p e).lists lo hi s) (sym is) ∙ q)
bare_stops T U Memory p e at x y lo hi h low high is q = tt

-- ---- rows of a range

rows_are : (lists : List (List Value)) (rows : List Value) → rows_of lists ≡ done rows → rows_in lists ≡ rows
rows_are lists rows q = ap or_none q

pub row_inside : (n : ExprTree) (env : Env) (lists : List (List Value)) (from to : ℕ) (start : Thing) (i : ℕ) (s : Thing) → RunsIn n env lists from to start i s → i < to → i < length (rows_in lists)
row_inside n env lists from to start i s h less =
    let long : to ≤ length h.holds.rows = h.holds.within in
    subst (λ r. i < length r) (sym (rows_are lists h.holds.rows h.holds.are)) (omega arith)

row_there : (n : ExprTree) (env : Env) (lists : List (List Value)) (from to : ℕ) (start : Thing) (i : ℕ) (s : Thing) (v : Value) → (h : RunsIn n env lists from to start i s) → slice_get (rows_in lists) i ≡ Some v → slice_get h.holds.rows i ≡ Some v
row_there n env lists from to start i s v h q = sym (ap (λ r. slice_get r i) (rows_are lists h.holds.rows h.holds.are)) ∙ q

pub row_holds : (n : ExprTree) (env : Env) (lists : List (List Value)) (from to : ℕ) (start : Thing) (i : ℕ) (s : Thing) (v : Value) → RunsIn n env lists from to start i s → slice_get (rows_in lists) i ≡ Some v → HoldsRow n env s v
row_holds n env lists from to start i s v h q = range_row n env lists from to start i s v h (row_there n env lists from to start i s v h q)

pub row_done : (n : ExprTree) (env : Env) (lists : List (List Value)) (from to : ℕ) (start : Thing) (i : ℕ) (s t : Thing) (v : Value) → RunsIn n env lists from to start i s → i < to → slice_get (rows_in lists) i ≡ Some v → row_step n env (i, v) s ≡ done t → RunsIn n env lists from to start (i + 1) t
row_done n env lists from to start i s t v h less q r = range_on n env lists from to start i s t v h less (row_there n env lists from to start i s v h q) r

pub row_stops : (T U : Type 0) (stop : Stop) (n : ExprTree) (env : Env) (lists : List (List Value)) (from to : ℕ) (start : Thing) (i : ℕ) (s t u : Thing) (v : Value) → RunsIn n env lists from to start i s → i < to → slice_get (rows_in lists) i ≡ Some v → RowAnswer {T = T} (Err stop) n env (i, v) s t
    → RangeAnswer {T = U} (Err stop) (record { node = n; names = env; lists = lists; start = start }) from to start u
row_stops T U Fault n env lists from to start i s t u v h less q r = range_fault n env lists from to start i s v h less (row_there n env lists from to start i s v h q) r
row_stops T U Memory n env lists from to start i s t u v h less q r = tt
