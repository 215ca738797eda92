use denote.Builtin.{unit}
use Rattle.weld_eval.specs.ThingView.{thing_of}
use Rattle.weld_tile_parts.specs.declared.piece.TilePart.{TilePart}
use Rattle.weld_exec.proofs.Tiling.{bare_ready, bare_action, bare_answers, bare_stops}
use Rattle.weld_exec.proofs.tile.tile_part.Goals as goal

pub run_in-requires-clause-holds : goal.run_in-requires-clause-holds
run_in-requires-clause-holds c = bare_ready c.args.plan.now c.args.env.now c.args.at (thing_of c.in-Ok.part) c.args.tile.lo c.args.tile.hi c.requires.at c.requires.ordered c.requires.within c.in-Ok.ensures

pub part_of-requires-clause-action : goal.part_of-requires-clause-action
part_of-requires-clause-action c = bare_action c.args.plan.now c.args.env.now (thing_of c.in-Ok.part) (thing_of c.run_in.new.part) c.args.tile.lo c.args.tile.hi c.in-Ok.ensures c.in-Ok-run_in.ensures

pub returns-in-Err-run_in-clause-action : goal.returns-in-Err-run_in-clause-action
returns-in-Err-run_in-clause-action c = bare_answers unit.Denot c.in-Err-run_in.stop c.args.plan.now c.args.env.now (thing_of c.in-Ok.part) (thing_of c.run_in.new.part) c.args.tile c.in-Ok.ensures c.in-Err-run_in.ensures

pub returns-in-Err-run_in-clause-means : goal.returns-in-Err-run_in-clause-means
returns-in-Err-run_in-clause-means c = bare_stops unit.Denot TilePart c.in-Err-run_in.stop c.args.plan.now c.args.env.now c.args.at (thing_of c.in-Ok.part) (thing_of c.run_in.new.part) c.args.tile.lo c.args.tile.hi c.requires.at c.requires.ordered c.requires.within c.in-Ok.ensures c.in-Err-run_in.ensures
