-- What the steps that work on the stack alone make of it.
use Rattle.std.specs.Prelude.{ℕ, zero, suc}
use Rattle.weld_data.specs.Value.{list, values}
use Rattle.weld_tree.specs.ExprTree.{One, Two, Three, Many}
use Rattle.weld_builders.specs.Outcome.{Outcome, done, stuck, map_out}
use Rattle.weld_meaning.specs.Thing.{Thing, plain, Things, no_things, more_things}
use Rattle.weld_meaning.specs.Evaluation.{one_thing, two_thing, three_thing, many_thing}
use Rattle.weld_eval_forms.specs.Legs.{strided_elements}
use Rattle.weld_plan.specs.StepTree.{StepTree, apply_one, apply_two, apply_three, apply_many, stride}

-- a thing on top of the stack
abbrev pub put_on : Things → Thing → Things
put_on st t = more_things t st

-- the form of one part takes the newest thing
abbrev pub one_stack : One → Things → Outcome Things
one_stack p no_things = stuck
one_stack p (more_things t st) = map_out (put_on st) (one_thing p t)

-- the form of two parts takes the two newest things, of which the newest is the second
abbrev pub two_stack : Two → Things → Outcome Things
two_stack p no_things = stuck
two_stack p (more_things u no_things) = stuck
two_stack p (more_things u (more_things t st)) = map_out (put_on st) (two_thing p t (done u))

abbrev pub three_stack : Three → Things → Outcome Things
three_stack p no_things = stuck
three_stack p (more_things w no_things) = stuck
three_stack p (more_things w (more_things u no_things)) = stuck
three_stack p (more_things w (more_things u (more_things t st))) = map_out (put_on st) (three_thing p t (done u) (done w))

-- so many of the newest things, the newest first, and what stands below them
abbrev pub newest : ℕ → Things → Things
newest zero st = no_things
newest (suc n) no_things = no_things
newest (suc n) (more_things t st) = more_things t (newest n st)

abbrev pub below : ℕ → Things → Things
below zero st = st
below (suc n) no_things = no_things
below (suc n) (more_things t st) = below n st

abbrev pub many_stack : Many → ℕ → Things → Outcome Things
many_stack p n st = map_out (put_on (below n st)) (many_thing p (newest n st))

-- a vector, a start, an end and a stride, the stride the newest, become the vector of a leg
abbrev pub stride_stack : Things → Outcome Things
stride_stack no_things = stuck
stride_stack (more_things d no_things) = stuck
stride_stack (more_things d (more_things e no_things)) = stuck
stride_stack (more_things d (more_things e (more_things s no_things))) = stuck
stride_stack (more_things d (more_things e (more_things s (more_things v st)))) = map_out (λ vs. more_things (plain (list (values vs))) st) (strided_elements v s e d)

-- what such a step makes of the stack
abbrev pub after_step : StepTree → Things → Outcome Things
after_step (apply_one p) st = one_stack p st
after_step (apply_two p) st = two_stack p st
after_step (apply_three p) st = three_stack p st
after_step (apply_many p n) st = many_stack p n st
after_step stride st = stride_stack st
after_step _ st = stuck
