use Rattle.std.proofs.Common.{◌≡◌}
use Rattle.weld_turns.specs.StepView.{step_nodes, step_value, words_of}
use Rattle.weld_turns.proofs.run_steps.run_steps.Given as goal

-- what is left comes to what the whole does

abbrev pub invariant-steps : goal.invariant-steps
invariant-steps l = step_value l.step l.shape (words_of l.initial.words) ≡ step_value l.at l.shape (words_of l.words)

abbrev pub decreases-steps : goal.decreases-steps
decreases-steps l = step_nodes l.at
