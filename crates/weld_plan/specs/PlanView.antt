-- Plans in the code.
use Rattle.std.specs.Prelude.{◌≡◌, List, map}
use Rattle.weld_tree.specs.ExprView.{view_one, view_two, view_three, view_many}
use Rattle.weld_meaning.specs.Accepted.{IsAccepted}
use Rattle.weld_plan.specs.declared.step.Step.{Step}
use Rattle.weld_plan.specs.declared.step.Step.TheVariants as code
use Rattle.weld_plan.specs.declared.plan.Plan.{Plan}
use Rattle.weld_plan.specs.StepTree.{StepTree, compute, apply_one, apply_two, apply_three, apply_many, decide, unless, skip, bind, unbind, stride, run_loop, run_turns, steps_of}

-- a step as plain data
abbrev pub view_step : Step → StepTree
view_step (code.Compute e) = compute e.now
view_step (code.One o) = apply_one (view_one o.now)
view_step (code.Two o) = apply_two (view_two o)
view_step (code.Three o) = apply_three (view_three o)
view_step (code.Many o n) = apply_many (view_many o) n
view_step (code.Decide o n) = decide (view_two o) n
view_step (code.Unless n) = unless n
view_step (code.Skip n) = skip n
view_step (code.Bind s) = bind s.0
view_step code.Unbind = unbind
view_step code.Stride = stride
view_step (code.Loop e k) = run_loop e.now k.0
view_step (code.Turns e) = run_turns e.now

abbrev pub view_steps : List Step → List StepTree
view_steps steps = map view_step steps

-- the steps are those of the program, which is accepted
pub record IsPlan (p : Plan) : Type 0 where
  pub accepted : IsAccepted p.program.now
  pub steps : view_steps p.steps.items ≡ steps_of p.program.now.body 0
