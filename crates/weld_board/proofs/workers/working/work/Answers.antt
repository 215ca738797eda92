use Rattle.weld_board.specs.Sitting.{taken}
use Rattle.weld_board.proofs.Done.{job_there, works_on}
use Rattle.weld_board.proofs.workers.working.work.Goals as goal

pub do_job-requires-clause-job : goal.do_job-requires-clause-job
do_job-requires-clause-job g c κs within = job_there c.args.board.now c.takes.worker.seat c.take.new.self c.in-Some.tile (g.T.Jobs.count c.args.jobs.now) c.requires.numbered c.requires.length c.in-Some.ensures.tile

pub takes-preserved : goal.takes-preserved
takes-preserved g c =
    works_on (g.T.Jobs.made c.args.jobs.now) (g.T.Jobs.faults c.args.jobs.now) c.args.board.now c.takes.worker c.do_job.new.worker c.take.new.self c.in-Some.tile c.requires.numbered c.takes.invariant c.in-Some.ensures.sits c.in-Some.ensures.tile
    c.do_job.ensures.seat (c.do_job.ensures.done (taken c.takes.worker.seat) c.takes.invariant.done) c.do_job.ensures.fault
