use Rattle.weld_eval.specs.ThingView.{thing_of}
use Rattle.weld_share.proofs.Spanning.{bare_made}
use Rattle.weld_share.proofs.sharing.BatchJobsOwned.begin.Goals as goal

pub returns-in-Ok-clause-made : goal.returns-in-Ok-clause-made
returns-in-Ok-clause-made g c =
    bare_made c.args.self.now.run.now.plan.now c.args.self.now.run.now.env.now c.args.self.now.stretches.now c.requires.ready.0 c.requires.ready.1 c.args.job (thing_of c.in-Ok.part) c.requires.job c.in-Ok.ensures
