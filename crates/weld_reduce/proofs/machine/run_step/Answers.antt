use Rattle.std.proofs.Common.{◌+◌, ap, sym, ◌∙◌}
use Rattle.weld_accept.specs.declared.step.Step.{Step}
use Rattle.weld_reduce.specs.StateView.{view_state}
use Rattle.weld_reduce.specs.Made.{made_by}
use Rattle.weld_reduce.proofs.CodeNumbers.{behind_reduce}
use Rattle.weld_reduce.proofs.machine.run_step.Goals as goal

pub returns-in_ok-reduce-in-Reduce-clause-numbered : goal.returns-in_ok-reduce-in-Reduce-clause-numbered
returns-in_ok-reduce-in-Reduce-clause-numbered c =
    behind_reduce c.in-Reduce.rule (view_state c.args.state.now) (view_state c.reduce.new.state) c.in_ok-reduce-in-Reduce.ensures.ok
    ∙ ap (λ (step : Step). c.args.state.now.next + made_by step) (sym c.in-Reduce.is)
