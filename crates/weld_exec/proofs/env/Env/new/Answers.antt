use Rattle.weld_exec.proofs.Moving.{starts}
use Rattle.weld_exec.proofs.RowsLeft.{rows_start}
use Rattle.weld_exec.proofs.env.Env.new.Goals as goal

pub returns-clause-ready : goal.returns-clause-ready
returns-clause-ready c = record {
  plan = c.requires.plan;
  leads = starts c.args.plan.now.program.now c.args.inputs.now _ _ c.requires.plan.accepted c.requires.plan.steps c.requires.fit c.new.ensures;
}

pub returns-clause-rows : goal.returns-clause-rows
returns-clause-rows c v q = rows_start c.args.plan.now.program.now c.args.inputs.now _ _ v c.requires.plan.steps c.new.ensures q
