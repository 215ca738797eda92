use Rattle.std.proofs.Common.{drop}
use Rattle.weld_eval.specs.ThingView.{thing_of}
use Rattle.weld_exec.specs.Run.{evaluation_of}
use Rattle.weld_share.proofs.Stretching.{HasRun}
use Rattle.weld_share.proofs.Spanning.{stretch_of}
use Rattle.weld_share.proofs.sharing.BatchJobsOwned.run.Given as goal

abbrev pub invariant-loop-tile : goal.invariant-loop-tile
invariant-loop-tile g l =
    HasRun (evaluation_of l.self.run.now.plan.now l.self.run.now.env.now).node (evaluation_of l.self.run.now.plan.now l.self.run.now.env.now).names (evaluation_of l.self.run.now.plan.now l.self.run.now.env.now).lists
    (stretch_of l.self.stretches.now l.job).whole.lo (stretch_of l.self.stretches.now l.job).whole.hi (thing_of l.fn.part) (drop l.tile-index (stretch_of l.self.stretches.now l.job).tiles.now) (thing_of l.part)
