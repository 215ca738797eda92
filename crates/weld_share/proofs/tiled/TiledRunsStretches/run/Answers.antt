use denote.Builtin.{unit}
use Rattle.std.proofs.Common.{◌≤◌, ◌+◌, drop, get_or, refl, sym, subst}
use Rattle.weld_meaning.specs.Thing.{Thing, bare_thing}
use Rattle.weld_acts.specs.Ranges.{Evaluation}
use Rattle.weld_eval.specs.ThingView.{thing_of}
use Rattle.weld_tiles.specs.declared.tile.Tile.{Tile}
use Rattle.weld_exec.specs.Run.{evaluation_of, rows_at, IsAtALoop}
use Rattle.weld_exec.proofs.Tiling.{bare_ready}
use Rattle.weld_share.specs.Stretches.{IsStretch, IsStretchOf}
use Rattle.weld_share.proofs.Stretching.{HasRun, run_ordered, run_starts, run_at, tile_next, tile_on, tile_stops, stretch_stops}
use Rattle.weld_share.proofs.tiled.TiledRunsStretches.run.Goals as goal

pub loop-tile-init : goal.loop-tile-init
loop-tile-init g c =
    let ev : Evaluation = evaluation_of c.args.self.now.plan.now c.args.self.now.env.now in
    let at : IsAtALoop c.args.self.now.plan.now c.args.self.now.env.now = c.requires.0 in
    let of : IsStretchOf (rows_at c.args.self.now.env.now) c.args.stretch.now = c.requires.1 in
    let is : IsStretch c.args.stretch.now = of.0 in
    let within : c.args.stretch.now.whole.hi ≤ rows_at c.args.self.now.env.now = of.1 in
    let low : c.args.stretch.now.whole.lo ≤ c.args.stretch.now.whole.hi = run_ordered is.0 c.args.stretch.now.whole.lo c.args.stretch.now.whole.hi c.args.stretch.now.tiles.now is.1 in
    subst (λ (s : Thing). HasRun ev.node ev.names ev.lists c.args.stretch.now.whole.lo c.args.stretch.now.whole.hi (bare_thing ev.start) c.args.stretch.now.tiles.now s) (sym c.in-Ok.ensures)
    (run_starts ev.node ev.names ev.lists is.0 c.args.stretch.now.whole.lo c.args.stretch.now.whole.hi c.args.stretch.now.tiles.now (bare_thing ev.start) is.1
    (bare_ready c.args.self.now.plan.now c.args.self.now.env.now at.at (bare_thing ev.start) c.args.stretch.now.whole.lo c.args.stretch.now.whole.hi at.stands low within refl))

pub run_told-requires-clause-holds : goal.run_told-requires-clause-holds
run_told-requires-clause-holds g c =
    let ev : Evaluation = evaluation_of c.args.self.now.plan.now c.args.self.now.env.now in
    let none : Tile = record { number = 0; lo = 0; hi = 0 } in
    tile_next ev.node ev.names ev.lists c.args.stretch.now.whole.lo c.args.stretch.now.whole.hi (bare_thing ev.start) (thing_of c.loop-tile.part) (get_or c.args.stretch.now.tiles.now c.loop-tile.tile-index none) (drop (c.loop-tile.tile-index + 1) c.args.stretch.now.tiles.now)
    (run_at ev.node ev.names ev.lists c.args.stretch.now.whole.lo c.args.stretch.now.whole.hi (bare_thing ev.start) (thing_of c.loop-tile.part) c.args.stretch.now.tiles.now c.loop-tile.tile-index none c.loop-tile-test.true c.loop-tile.invariant)

pub returns-in-Err-run_told : goal.returns-in-Err-run_told
returns-in-Err-run_told g c =
    let ev : Evaluation = evaluation_of c.args.self.now.plan.now c.args.self.now.env.now in
    let at : IsAtALoop c.args.self.now.plan.now c.args.self.now.env.now = c.requires.0 in
    let of : IsStretchOf (rows_at c.args.self.now.env.now) c.args.stretch.now = c.requires.1 in
    let none : Tile = record { number = 0; lo = 0; hi = 0 } in
    stretch_stops unit.Denot unit.Denot c.in-Err-run_told.stop c.args.self.now.plan.now c.args.self.now.env.now c.args.stretch.now (thing_of c.run_told.new.part) at of
    (tile_stops unit.Denot unit.Denot c.in-Err-run_told.stop ev.node ev.names ev.lists c.args.stretch.now.whole.lo c.args.stretch.now.whole.hi (bare_thing ev.start) (thing_of c.loop-tile.part) (thing_of c.run_told.new.part) (thing_of c.run_told.new.part) ev.start
    (get_or c.args.stretch.now.tiles.now c.loop-tile.tile-index none) (drop (c.loop-tile.tile-index + 1) c.args.stretch.now.tiles.now)
    (run_at ev.node ev.names ev.lists c.args.stretch.now.whole.lo c.args.stretch.now.whole.hi (bare_thing ev.start) (thing_of c.loop-tile.part) c.args.stretch.now.tiles.now c.loop-tile.tile-index none c.loop-tile-test.true c.loop-tile.invariant)
    c.in-Err-run_told.ensures)

pub loop-tile-preserved : goal.loop-tile-preserved
loop-tile-preserved g c =
    let ev : Evaluation = evaluation_of c.args.self.now.plan.now c.args.self.now.env.now in
    let none : Tile = record { number = 0; lo = 0; hi = 0 } in
    tile_on ev.node ev.names ev.lists c.args.stretch.now.whole.lo c.args.stretch.now.whole.hi (bare_thing ev.start) (thing_of c.loop-tile.part) (thing_of c.run_told.new.part)
    (get_or c.args.stretch.now.tiles.now c.loop-tile.tile-index none) (drop (c.loop-tile.tile-index + 1) c.args.stretch.now.tiles.now)
    (run_at ev.node ev.names ev.lists c.args.stretch.now.whole.lo c.args.stretch.now.whole.hi (bare_thing ev.start) (thing_of c.loop-tile.part) c.args.stretch.now.tiles.now c.loop-tile.tile-index none c.loop-tile-test.true c.loop-tile.invariant)
    c.in-Ok-run_told.ensures

pub part_of-requires-clause-ordered : goal.part_of-requires-clause-ordered
part_of-requires-clause-ordered g c =
    let of : IsStretchOf (rows_at c.args.self.now.env.now) c.args.stretch.now = c.requires.1 in
    let is : IsStretch c.args.stretch.now = of.0 in
    run_ordered is.0 c.args.stretch.now.whole.lo c.args.stretch.now.whole.hi c.args.stretch.now.tiles.now is.1
