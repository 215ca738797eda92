use Rattle.std.proofs.Common.{arith}
use Rattle.weld_board.proofs.Ending.{ran_made, ran_jobs}
use Rattle.weld_board.proofs.workers.working.run_last.Goals as goal

pub overflow_add-span : goal.overflow_add-span
overflow_add-span g c = let low = c.requires.job in let few = c.requires.few in omega arith

pub returns-in-Ok-clause-made : goal.returns-in-Ok-clause-made
returns-in-Ok-clause-made g c = ran_made (g.T.Jobs.made c.args.jobs.now) c.args.job c.args.spans.now c.index-spans-at.result c.run.new.part c.requires.last c.in-Ok.ensures.made

pub returns-in-Ok-clause-jobs : goal.returns-in-Ok-clause-jobs
returns-in-Ok-clause-jobs g c = ran_jobs (g.T.Jobs.made c.args.jobs.now) c.args.job c.args.spans.now c.index-spans-at.result c.run.new.part c.requires.last
