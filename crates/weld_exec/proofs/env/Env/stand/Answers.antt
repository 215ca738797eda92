use Rattle.weld_exec.proofs.Looping.{at_is}
use Rattle.weld_exec.proofs.env.Env.stand.Goals as goal

pub returns-in-Ok-clause-next : goal.returns-in-Ok-clause-next
returns-in-Ok-clause-next c = at_is c.args.plan.now c.args.self.now c.in-Ok.rows c.args.node.now c.args.at c.requires c.in-Ok.ensures
