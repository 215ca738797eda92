use Rattle.std.proofs.Common.{◌≡◌, ◌+◌, ◌<◌, drop}
use Rattle.weld_reduce.specs.StateView.{view_state}
use Rattle.weld_reduce.specs.Runs.{run}
use Rattle.weld_reduce.specs.Made.{binders_made}
use Rattle.weld_reduce.proofs.machine.run_steps.Given as goal

abbrev pub invariant-loop-step : goal.invariant-loop-step
invariant-loop-step l = record {
  same : run l.steps l.tokens (view_state l.fn.state) ≡ run (drop l.step-index l.steps) (drop l.next l.tokens) (view_state l.state);
  room : l.state.next + binders_made (drop l.step-index l.steps) < 4294967296;
}
