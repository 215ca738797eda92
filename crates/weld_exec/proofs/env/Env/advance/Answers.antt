use Rattle.std.proofs.Common.{◌≡◌, ◌<◌, length, ap, ◌∙◌, subst, arith}
use Rattle.weld_plan.specs.PlanView.{view_step}
use Rattle.weld_plan.specs.StepTree.{StepTree}
use Rattle.weld_exec.specs.Run.{StandsAt}
use Rattle.weld_exec.proofs.Looping.{left_out_on, stands_at, takes_step}
use Rattle.weld_exec.proofs.RowsLeft.{left_out_rows}
use Rattle.weld_exec.proofs.env.Env.advance.Goals as goal

pub loop-self-preserved-then-self-gt0 : goal.loop-self-preserved-then-self-gt0
loop-self-preserved-then-self-gt0 c =
    let less : c.loop-self.self.at < length c.args.plan.now.steps.items = grind arith in
    (left_out_on c.args.plan.now c.loop-self.self _ c.loop-self.invariant.0 less c.if-self-gt0.true, c.loop-self.invariant.1, omega (arith, c.loop-self.invariant.2), left_out_rows c.args.plan.now c.loop-self.self c.loop-self.self.rows less c.if-self-gt0.true ∙ c.loop-self.invariant.3)

pub stand-requires : goal.stand-requires
stand-requires c =
    let less : c.loop-self.self.at < length c.args.plan.now.steps.items = grind arith in
    let none : c.loop-self.self.skip ≡ 0 = omega arith in
    subst (λ (s : StepTree). StandsAt c.args.plan.now c.loop-self.self s) (ap view_step c.in-Loop.is) (stands_at c.args.plan.now c.loop-self.self c.index-step.result.now c.loop-self.invariant.0 less none c.index-step.ensures)

pub take_step-requires : goal.take_step-requires
take_step-requires c =
    let less : c.loop-self.self.at < length c.args.plan.now.steps.items = grind arith in
    let none : c.loop-self.self.skip ≡ 0 = omega arith in
    let t = takes_step c.args.plan.now c.loop-self.self c.index-step.result.now c.loop-self.invariant.0 less none c.index-step.ensures c.in_default.not-Loop in
    record { stands = t.0; more = t.1; form = t.2 }
