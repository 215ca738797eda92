use Rattle.std.proofs.Common.{ap, sym, subst, ◌∙◌}
use Rattle.weld_board.specs.Spans.{EndsAt, jobs_in}
use Rattle.weld_board.proofs.Ending.{bare_ends, bare_jobs}
use Rattle.weld_board.proofs.workers.working.push_bare.Goals as goal
use Rattle.weld_board.proofs.workers.working.push_bare.Goals.{in-Ok-push, in-Err-push}

pub returns-clause-last : goal.returns-clause-last
returns-clause-last g c = elim c.match-push.branch [
  | in-Ok-push w ↦ rw w.result-is (subst (EndsAt (g.T.Jobs.made c.args.jobs.now) c.args.job) (sym w.in-Ok-push.ensures.items) (bare_ends (g.T.Jobs.made c.args.jobs.now) c.args.job c.args.spans.now.items c.in-Ok.part c.requires.made c.in-Ok.ensures.made))
  | in-Err-push w ↦ rw w.result-is tt
]

pub returns-clause-jobs : goal.returns-clause-jobs
returns-clause-jobs g c = elim c.match-push.branch [
  | in-Ok-push w ↦ rw w.result-is (ap jobs_in w.in-Ok-push.ensures.items ∙ bare_jobs (g.T.Jobs.made c.args.jobs.now) c.args.job c.args.spans.now.items c.in-Ok.part)
  | in-Err-push w ↦ rw w.result-is tt
]
