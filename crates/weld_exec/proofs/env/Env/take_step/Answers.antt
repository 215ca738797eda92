use Rattle.std.proofs.Common.{ap, subst}
use Rattle.weld_plan.specs.PlanView.{view_step}
use Rattle.weld_plan.specs.StepTree.{StepTree}
use Rattle.weld_exec.specs.Run.{StandsAt}
use Rattle.weld_exec.proofs.env.Env.take_step.Goals as goal

pub decide-requires-clause-next : goal.decide-requires-clause-next
decide-requires-clause-next c = record {
  of = c.args.plan.now;
  stands = subst (λ (s : StepTree). StandsAt c.args.plan.now c.args.self.now s) (ap view_step c.in-Decide.is) c.requires.stands;
}

pub unless-requires-clause-next : goal.unless-requires-clause-next
unless-requires-clause-next c = record {
  of = c.args.plan.now;
  stands = subst (λ (s : StepTree). StandsAt c.args.plan.now c.args.self.now s) (ap view_step c.in-Unless.is) c.requires.stands;
}

pub skip-requires-clause-next : goal.skip-requires-clause-next
skip-requires-clause-next c = record {
  of = c.args.plan.now;
  stands = subst (λ (s : StepTree). StandsAt c.args.plan.now c.args.self.now s) (ap view_step c.in-Skip.is) c.requires.stands;
}

pub bind-requires-clause-next : goal.bind-requires-clause-next
bind-requires-clause-next c = record {
  of = c.args.plan.now;
  stands = subst (λ (s : StepTree). StandsAt c.args.plan.now c.args.self.now s) (ap view_step c.in-Bind.is) c.requires.stands;
}

pub unbind-requires-clause-next : goal.unbind-requires-clause-next
unbind-requires-clause-next c = record {
  of = c.args.plan.now;
  stands = subst (λ (s : StepTree). StandsAt c.args.plan.now c.args.self.now s) (ap view_step c.in-Unbind.is) c.requires.stands;
}
