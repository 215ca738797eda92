-- Where a run of a plan stands.
use Rattle.std.specs.Prelude.{◌≡◌, ℕ, ◌+◌, ◌-◌, List, [], ◌∷◌, ◌++◌, drop, length, Result, Ok, Err}
use Rattle.weld_data.specs.Value.{Value}
use Rattle.weld_data.specs.View.{view_val}
use Rattle.weld_data.specs.declared.stop.Stop.{Stop}
use Rattle.weld_data.specs.declared.stop.Stop.TheVariants.{Fault, Memory}
use Rattle.weld_tree.specs.ExprTree.{ExprTree}
use Rattle.weld_builders.specs.Outcome.{Outcome, done, fault}
use Rattle.weld_meaning.specs.declared.loop_id.LoopId.{LoopId}
use Rattle.weld_meaning.specs.Thing.{Thing, more_things, first_of, rest_of, bare_thing}
use Rattle.weld_meaning.specs.Evaluation.{Env, eval}
use Rattle.weld_meaning.specs.Meaning.{with_arguments, meaning}
use Rattle.weld_eval.specs.NamesView.{env_of_names}
use Rattle.weld_eval.specs.ThingView.{things_of}
use Rattle.weld_acts.specs.Ranges.{Evaluation, HoldsRange, IsAction, range_over}
use Rattle.weld_tiles.specs.declared.tile.Tile.{Tile}
use Rattle.weld_tile_parts.specs.declared.piece.TilePart.{TilePart}
use Rattle.weld_tile_parts.specs.declared.piece.Piece.{Piece}
use Rattle.weld_tile_parts.specs.Parts.{part_thing, part_evaluation, piece_thing, piece_evaluation}
use Rattle.weld_plan.specs.StepTree.{StepTree, run_loop}
use Rattle.weld_plan.specs.Leads.{GoesOn, IsLoopAt, below_loop, loop_lists, Leads}
use Rattle.weld_plan.specs.PlanView.{view_steps, IsPlan}
use Rattle.weld_plan.specs.StepRows.{rows_of_steps}
use Rattle.weld_plan.specs.declared.plan.Plan.{Plan}
use Rattle.weld_exec.specs.Stacked.{IsSomething}
use Rattle.weld_exec.specs.declared.env.Env.{Env as State}
use Rattle.weld_exec.specs.declared.env.Next.{Next}
use Rattle.weld_exec.specs.declared.env.Next.TheVariants as next

-- the arguments of the program
abbrev pub env_inputs : State → List Value
env_inputs e = e.inputs.now

-- what the plan's program means on them
abbrev pub program_meaning : Plan → State → Outcome Value
program_meaning p e = meaning p.program.now (env_inputs e)

-- the parameters with their arguments, the names that lets have bound, and both
abbrev pub arguments_of : Plan → State → Env
arguments_of p e = with_arguments p.program.now.params (env_inputs e)

abbrev pub locals : State → Env
locals e = env_of_names e.names

abbrev pub scope : Plan → State → Env
scope p e = locals e ++ arguments_of p e

-- what the body of the program comes to
abbrev pub body_outcome : Plan → State → Outcome Thing
body_outcome p e = eval p.program.now.body (arguments_of p e)

abbrev pub steps_left : Plan → State → List StepTree
steps_left p e = drop e.at (view_steps p.steps.items)

-- the steps that are left lead from where the run stands to what the program's body comes to
pub record IsReady (p : Plan) (e : State) : Type 0 where
  pub plan : IsPlan p
  pub leads : Leads (steps_left p e) e.skip (arguments_of p e) (locals e) (things_of e.stack) (body_outcome p e)

-- how many rows each shared loop has that the run still comes to
abbrev pub rows_left : Plan → State → List ℕ
rows_left p e = rows_of_steps (steps_left p e) e.skip (arguments_of p e) (locals e) (things_of e.stack)

-- ---- at a loop

-- the node of the loop that is the next step
abbrev pub loop_node : ExprTree → List StepTree → ExprTree
loop_node other [] = other
loop_node other (run_loop n k ∷ rest) = n
loop_node other (_ ∷ rest) = other

abbrev pub node_of : Plan → State → ExprTree
node_of p e = loop_node p.program.now.body (steps_left p e)

-- the evaluation at which the run stands: the loop's legs and its builder are on the stack
abbrev pub evaluation_of : Plan → State → Evaluation
evaluation_of p e = record {
  node = node_of p e;
  names = scope p e;
  lists = loop_lists (node_of p e) (scope p e) (rest_of (things_of e.stack));
  start = first_of (things_of e.stack);
}

-- how many rows it has
abbrev pub rows_at : State → ℕ
rows_at e = e.rows

-- the run stands at the loop of that number, which has so many rows; and from what it comes to the steps behind it lead on
pub record AtLoop (p : Plan) (e : State) (at : LoopId) : Type 0 where
  pub plan : IsPlan p
  pub rest : List StepTree
  pub left : steps_left p e ≡ run_loop (evaluation_of p e).node at.0 ∷ rest
  pub skip : e.skip ≡ 0
  pub there : IsSomething (things_of e.stack)
  pub is_loop : IsLoopAt (evaluation_of p e).node (evaluation_of p e).names (evaluation_of p e).start (rest_of (things_of e.stack))
  pub holds : HoldsRange (evaluation_of p e).node (evaluation_of p e).names (evaluation_of p e).lists 0 (rows_at e) (evaluation_of p e).start
  pub counted : length holds.rows ≡ rows_at e
  pub goes_on : GoesOn (eval (evaluation_of p e).node (evaluation_of p e).names) (λ t. Leads rest 0 (arguments_of p e) (locals e) (more_things t (below_loop (evaluation_of p e).node (rest_of (things_of e.stack)))) (body_outcome p e)) (body_outcome p e)

-- the run stands at a loop of whatever number
pub record IsAtALoop (p : Plan) (e : State) : Type 0 where
  pub at : LoopId
  pub stands : AtLoop p e at

-- how many steps are left
abbrev pub left_of : Plan → State → ℕ
left_of p e = length p.steps.items - e.at

-- the next step is a loop
abbrev pub IsLoopNext : List StepTree → Type 0
IsLoopNext [] = ⊥
IsLoopNext (run_loop n k ∷ rest) = Unit {0}
IsLoopNext (_ ∷ rest) = ⊥

-- what advancing answers
abbrev pub NextAnswer : Result Next Stop → Plan → State → Type 0
NextAnswer (Ok (next.Loop at)) p e = AtLoop p e at
NextAnswer (Ok (next.Done v)) p e = program_meaning p e ≡ done (view_val v)
NextAnswer (Err Fault) p e = program_meaning p e ≡ fault
NextAnswer (Err Memory) p e = Unit {0}

-- at the end the run comes to no loop any more
abbrev pub LeavesNone : Plan → State → Next → Type 0
LeavesNone p e (next.Loop at) = Unit {0}
LeavesNone p e (next.Done v) = rows_left p e ≡ []

-- what a tile answers: what its rows make of the builder that has nothing merged
abbrev pub TileAnswer : Result TilePart Stop → Evaluation → Tile → Type 0
TileAnswer (Ok part) ev tile = IsAction ev tile.lo tile.hi (part_thing part) × (part.tile ≡ tile) × (part_evaluation part ≡ ev)
TileAnswer (Err Fault) ev tile = range_over ev.node ev.names ev.lists tile.lo tile.hi (bare_thing ev.start) ≡ fault
TileAnswer (Err Memory) ev tile = Unit {0}

-- the same of a piece
abbrev pub PieceAnswer : Result Piece Stop → Evaluation → Tile → Type 0
PieceAnswer (Ok piece) ev tile = IsAction ev tile.lo tile.hi (piece_thing piece) × (piece.tile ≡ tile) × (piece_evaluation piece ≡ ev)
PieceAnswer (Err Fault) ev tile = range_over ev.node ev.names ev.lists tile.lo tile.hi (bare_thing ev.start) ≡ fault
PieceAnswer (Err Memory) ev tile = Unit {0}

-- ---- steps

-- the steps behind the next one
abbrev pub rest_left : Plan → State → List StepTree
rest_left p e = drop (e.at + 1) (view_steps p.steps.items)

-- this is the next step, no step is left out, and it leads on
pub record StandsAt (p : Plan) (e : State) (s : StepTree) : Type 0 where
  pub plan : IsPlan p
  pub left : steps_left p e ≡ s ∷ rest_left p e
  pub skip : e.skip ≡ 0
  pub leads : Leads (s ∷ rest_left p e) 0 (arguments_of p e) (locals e) (things_of e.stack) (body_outcome p e)

-- the same of whatever plan the run is
pub record IsNext (e : State) (s : StepTree) : Type 0 where
  pub of : Plan
  pub stands : StandsAt of e s

-- what taking a step answers
abbrev pub StepAnswer : {T : Type 0} → Result T Stop → Plan → State → State → Type 0
StepAnswer (Ok x) p old new = IsReady p new
StepAnswer (Err Fault) p old new = body_outcome p old ≡ fault
StepAnswer (Err Memory) p old new = Unit {0}

abbrev pub IsNoLoop : StepTree → Type 0
IsNoLoop (run_loop n k) = ⊥
IsNoLoop _ = Unit {0}
