use Rattle.std.proofs.Common.{drop}
use Rattle.weld_meaning.specs.Thing.{bare_thing}
use Rattle.weld_eval.specs.ThingView.{thing_of}
use Rattle.weld_exec.specs.Run.{evaluation_of}
use Rattle.weld_share.proofs.Stretching.{HasRun}
use Rattle.weld_share.proofs.tiled.TiledRunsStretches.run.Given as goal

abbrev pub invariant-loop-tile : goal.invariant-loop-tile
invariant-loop-tile g l =
    HasRun (evaluation_of l.self.plan.now l.self.env.now).node (evaluation_of l.self.plan.now l.self.env.now).names (evaluation_of l.self.plan.now l.self.env.now).lists l.stretch.whole.lo l.stretch.whole.hi
    (bare_thing (evaluation_of l.self.plan.now l.self.env.now).start) (drop l.tile-index l.stretch.tiles.now) (thing_of l.part)
