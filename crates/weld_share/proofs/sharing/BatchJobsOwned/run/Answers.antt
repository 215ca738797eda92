use denote.Builtin.{unit}
use Rattle.std.proofs.Common.{◌≡◌, ◌<◌, ◌≤◌, ◌+◌, ℕ, List, drop, get_or, length, refl, sym, ap, subst, ◌∙◌, arith}
use Rattle.weld_meaning.specs.Thing.{Thing}
use Rattle.weld_acts.specs.Ranges.{Evaluation}
use Rattle.weld_eval.specs.ThingView.{thing_of}
use Rattle.weld_tiles.specs.declared.tile.Tile.{Tile}
use Rattle.weld_plan.specs.declared.plan.Plan.{Plan}
use Rattle.weld_exec.specs.Run.{evaluation_of, rows_at}
use Rattle.weld_exec.specs.declared.env.Env.{Env as State}
use Rattle.weld_share.specs.declared.stretch.Stretch.{Stretch}
use Rattle.weld_share.specs.Shared.{HasMade}
use Rattle.weld_share.proofs.Stretching.{run_starts, run_at, tile_next, tile_on, tile_stops, run_ends}
use Rattle.weld_share.proofs.Spanning.{no_stretch, stretch_of, stretch_at, can_run, more_made, stretch_faults}
use Rattle.weld_share.proofs.sharing.BatchJobsOwned.run.Goals as goal

pub loop-tile-init : goal.loop-tile-init
loop-tile-init g c =
    let p : Plan = c.args.self.now.run.now.plan.now in
    let e : State = c.args.self.now.run.now.env.now in
    let ss : List Stretch = c.args.self.now.stretches.now in
    let s : Stretch = stretch_of ss c.args.job in
    let ev : Evaluation = evaluation_of p e in
    let none : Tile = record { number = 0; lo = 0; hi = 0 } in
    let is = (stretch_at (rows_at e) ss c.requires.ready.1 (let low = c.requires.job in omega arith) c.args.job no_stretch c.requires.job).is in
    run_starts ev.node ev.names ev.lists is.0 s.whole.lo s.whole.hi s.tiles.now (thing_of c.args.part.now) is.1
    (can_run p e ss c.requires.ready.0 c.requires.ready.1 c.args._first c.args.job no_stretch (thing_of c.args.part.now) c.requires.job c.requires.made)

pub run_told-requires-clause-holds : goal.run_told-requires-clause-holds
run_told-requires-clause-holds g c =
    let p : Plan = c.args.self.now.run.now.plan.now in
    let e : State = c.args.self.now.run.now.env.now in
    let ss : List Stretch = c.args.self.now.stretches.now in
    let s : Stretch = stretch_of ss c.args.job in
    let ev : Evaluation = evaluation_of p e in
    let none : Tile = record { number = 0; lo = 0; hi = 0 } in
    tile_next ev.node ev.names ev.lists s.whole.lo s.whole.hi (thing_of c.args.part.now) (thing_of c.loop-tile.part) (get_or s.tiles.now c.loop-tile.tile-index none) (drop (c.loop-tile.tile-index + 1) s.tiles.now) (run_at ev.node ev.names ev.lists s.whole.lo s.whole.hi (thing_of c.args.part.now) (thing_of c.loop-tile.part) s.tiles.now c.loop-tile.tile-index none c.loop-tile-test.true c.loop-tile.invariant)

pub loop-tile-preserved : goal.loop-tile-preserved
loop-tile-preserved g c =
    let p : Plan = c.args.self.now.run.now.plan.now in
    let e : State = c.args.self.now.run.now.env.now in
    let ss : List Stretch = c.args.self.now.stretches.now in
    let s : Stretch = stretch_of ss c.args.job in
    let ev : Evaluation = evaluation_of p e in
    let none : Tile = record { number = 0; lo = 0; hi = 0 } in
    tile_on ev.node ev.names ev.lists s.whole.lo s.whole.hi (thing_of c.args.part.now) (thing_of c.loop-tile.part) (thing_of c.run_told.new.part) (get_or s.tiles.now c.loop-tile.tile-index none) (drop (c.loop-tile.tile-index + 1) s.tiles.now) (run_at ev.node ev.names ev.lists s.whole.lo s.whole.hi (thing_of c.args.part.now) (thing_of c.loop-tile.part) s.tiles.now c.loop-tile.tile-index none c.loop-tile-test.true c.loop-tile.invariant) c.in-Ok.ensures

pub returns-in-Err-clause-fault : goal.returns-in-Err-clause-fault
returns-in-Err-clause-fault g c =
    let p : Plan = c.args.self.now.run.now.plan.now in
    let e : State = c.args.self.now.run.now.env.now in
    let ss : List Stretch = c.args.self.now.stretches.now in
    let s : Stretch = stretch_of ss c.args.job in
    let ev : Evaluation = evaluation_of p e in
    let none : Tile = record { number = 0; lo = 0; hi = 0 } in
    stretch_faults p e ss c.requires.ready.0 c.requires.ready.1 unit.Denot unit.Denot c.in-Err.stop c.args._first c.args.job no_stretch (thing_of c.args.part.now) (thing_of c.run_told.new.part) ev.start c.requires.job c.requires.made
    (tile_stops unit.Denot unit.Denot c.in-Err.stop ev.node ev.names ev.lists s.whole.lo s.whole.hi (thing_of c.args.part.now) (thing_of c.loop-tile.part) (thing_of c.run_told.new.part) (thing_of c.run_told.new.part) ev.start (get_or s.tiles.now c.loop-tile.tile-index none) (drop (c.loop-tile.tile-index + 1) s.tiles.now) (run_at ev.node ev.names ev.lists s.whole.lo s.whole.hi (thing_of c.args.part.now) (thing_of c.loop-tile.part) s.tiles.now c.loop-tile.tile-index none c.loop-tile-test.true c.loop-tile.invariant) c.in-Err.ensures)

pub returns-clause-made : goal.returns-clause-made
returns-clause-made g c =
    let p : Plan = c.args.self.now.run.now.plan.now in
    let e : State = c.args.self.now.run.now.env.now in
    let ss : List Stretch = c.args.self.now.stretches.now in
    let s : Stretch = stretch_of ss c.args.job in
    let ev : Evaluation = evaluation_of p e in
    let none : Tile = record { number = 0; lo = 0; hi = 0 } in
    more_made p e ss c.requires.ready.0 c.requires.ready.1 c.args._first c.args.job no_stretch (thing_of c.args.part.now) (thing_of c.loop-tile.part) c.requires.job c.requires.made
    (run_ends ev.node ev.names ev.lists s.whole.lo s.whole.hi (thing_of c.args.part.now) (thing_of c.loop-tile.part) s.tiles.now c.loop-tile.tile-index c.loop-tile-test.false c.loop-tile.invariant)
