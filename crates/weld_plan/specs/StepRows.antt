-- The rows of the shared loops that steps come to.
use Rattle.std.specs.Prelude.{ℕ, zero, suc, Bool, if◌then◌else◌, List, [], ◌∷◌, ◌++◌, drop, length}
use Rattle.weld_builders.specs.Outcome.{Outcome, and_then}
use Rattle.weld_meaning.specs.Thing.{plain, Things, more_things, first_of, rest_of, as_value}
use Rattle.weld_meaning.specs.Evaluation.{Env, truth_of, truth_value, turn_limit, eval}
use Rattle.weld_eval_forms.specs.Legs.{rows_in}
use Rattle.weld_eval_plain.specs.Turns.{turns_from}
use Rattle.weld_plan.specs.StepTree.{StepTree, compute, apply_one, apply_two, apply_three, apply_many, decide, unless, skip, bind, unbind, stride, run_loop, run_turns}
use Rattle.weld_plan.specs.Leads.{settles, below_loop, loop_lists}
use Rattle.weld_plan.specs.Stack.{after_step}
use Rattle.weld_plan.specs.SharedRows.{if_done}

-- the truth value on top of the stack
abbrev pub top_truth : Things → Outcome Bool
top_truth st = and_then (as_value (first_of st)) truth_of

-- those of a step and of the rest K of the steps, which is told how many steps are left out, the names that lets have bound,
-- and the stack; g are the names of parameters
abbrev pub rows_of_step : StepTree → (ℕ → Env → Things → List ℕ) → Env → Env → Things → List ℕ
rows_of_step (compute e) K g ls st = if_done (eval e (ls ++ g)) (λ t. K 0 ls (more_things t st))
rows_of_step (apply_one p) K g ls st = if_done (after_step (apply_one p) st) (λ u. K 0 ls u)
rows_of_step (apply_two p) K g ls st = if_done (after_step (apply_two p) st) (λ u. K 0 ls u)
rows_of_step (apply_three p) K g ls st = if_done (after_step (apply_three p) st) (λ u. K 0 ls u)
rows_of_step (apply_many p n) K g ls st = if_done (after_step (apply_many p n) st) (λ u. K 0 ls u)
rows_of_step (decide p n) K g ls st =
    if_done (top_truth st) (λ c. if settles p c then K n ls (more_things (plain (truth_value c)) (rest_of st)) else K 0 ls (rest_of st))
rows_of_step (unless n) K g ls st = if_done (top_truth st) (λ (c : Bool). K (if c then 0 else n) ls (rest_of st))
rows_of_step (skip n) K g ls st = K n ls st
rows_of_step (bind s) K g ls st = K 0 ((s, first_of st) ∷ ls) (rest_of st)
rows_of_step unbind K g ls st = K 0 (drop 1 ls) st
rows_of_step stride K g ls st = if_done (after_step stride st) (λ u. K 0 ls u)
rows_of_step (run_loop n k) K g ls st =
    length (rows_in (loop_lists n (ls ++ g) (rest_of st))) ∷ if_done (eval n (ls ++ g)) (λ t. K 0 ls (more_things t (below_loop n (rest_of st))))
rows_of_step (run_turns n) K g ls st = if_done (and_then (as_value (first_of st)) (turns_from n (ls ++ g) turn_limit)) (λ r. K 0 ls (more_things r (rest_of st)))

-- from so many steps that are to be left out, the names of parameters, the names that lets have bound and the stack: how many
-- rows each shared loop has that the steps come to
abbrev pub rows_of_steps : List StepTree → ℕ → Env → Env → Things → List ℕ
rows_of_steps [] n g ls st = []
rows_of_steps (s ∷ rest) zero g ls st = rows_of_step s (λ n k u. rows_of_steps rest n g k u) g ls st
rows_of_steps (s ∷ rest) (suc n) g ls st = rows_of_steps rest n g ls st
