use Rattle.std.proofs.Common.{sym, subst}
use Rattle.weld_eval.specs.ThingView.{things_of}
use Rattle.weld_plan.specs.Leads.{Leads}
use Rattle.weld_plan.specs.PlanView.{view_step}
use Rattle.weld_exec.specs.Run.{rest_left, arguments_of, locals, body_outcome}
use Rattle.weld_exec.specs.Stacked.{after_step}
use Rattle.weld_exec.proofs.Stepping.{work_on, work_faults}
use Rattle.weld_exec.proofs.Looping.{next_works, stack_stop}
use Rattle.weld_exec.proofs.RowsLeft.{worked_left}
use Rattle.weld_exec.proofs.env.Env.work.Goals as goal

pub apply-requires : goal.apply-requires
apply-requires c = next_works (view_step c.args.step) c.args.self.now c.requires.form c.requires.next

pub returns-in-Ok-clause-step : goal.returns-in-Ok-clause-step
returns-in-Ok-clause-step c p h = record {
  plan = h.plan;
  leads = subst (λ n. Leads (rest_left p c.args.self.now) n (arguments_of p c.args.self.now) (locals c.args.self.now) (things_of c.apply.new.stack) (body_outcome p c.args.self.now)) (sym h.skip)
      (work_on (view_step c.args.step) (rest_left p c.args.self.now) (arguments_of p c.args.self.now) (locals c.args.self.now) (things_of c.args.self.now.stack) (things_of c.apply.new.stack) (body_outcome p c.args.self.now) c.requires.form h.leads c.in-Ok.ensures);
}

pub returns-in-Err-clause-step : goal.returns-in-Err-clause-step
returns-in-Err-clause-step c p h =
    stack_stop (Unit {0}) (Unit {0}) c.in-Err.stop (after_step (view_step c.args.step) (things_of c.args.self.now.stack)) (things_of c.apply.new.stack) p c.args.self.now _
    (λ q. work_faults (view_step c.args.step) (rest_left p c.args.self.now) (arguments_of p c.args.self.now) (locals c.args.self.now) (things_of c.args.self.now.stack) (body_outcome p c.args.self.now) c.requires.form h.leads q) c.in-Err.ensures

pub returns-in-Ok-clause-rows : goal.returns-in-Ok-clause-rows
returns-in-Ok-clause-rows c p h = worked_left p c.args.self.now (view_step c.args.step) (things_of c.apply.new.stack) h c.requires.form c.in-Ok.ensures
