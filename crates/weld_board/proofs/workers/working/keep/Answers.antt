use Rattle.std.proofs.Common.{sym, subst, ◌∙◌}
use Rattle.weld_board.specs.Spans.{EndsAt}
use Rattle.weld_board.proofs.Ending.{made_ends}
use Rattle.weld_board.proofs.workers.working.keep.Goals as goal

pub run_last-requires-clause-last : goal.run_last-requires-clause-last
run_last-requires-clause-last g c κs within =
    let at = c.goes_on.ensures c.if-goes_on.true in
    subst (EndsAt (g.T.Jobs.made c.args.jobs.now) c.args.job) (sym c.deref_mut.ensures.value)
    (made_ends (g.T.Jobs.made c.args.jobs.now) c.args.job c.args.spans.now.items at.0 at.1 c.requires.made (sym c.as_slice.ensures.value ∙ at.2) at.3)
