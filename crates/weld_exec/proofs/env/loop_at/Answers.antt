use Rattle.weld_exec.proofs.Looping.{is_loop, loop_there}
use Rattle.weld_exec.proofs.env.loop_at.Goals as goal

pub unreachable-requires : goal.unreachable-requires
unreachable-requires c = is_loop c.args.plan.now.steps.items c.args.at c.index.result.now c.requires c.index.ensures c.in_default.not-Loop

pub returns : goal.returns
returns c = loop_there c.args.plan.now.program.now.body c.args.plan.now.steps.items c.args.at c.index.result.now c.in-Loop.node c.in-Loop.field-1 c.requires c.index.ensures c.in-Loop.is
