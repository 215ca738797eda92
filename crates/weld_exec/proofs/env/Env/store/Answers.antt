use Rattle.weld_eval.specs.ThingView.{thing_of, things_of}
use Rattle.weld_tile_parts.specs.Parts.{joined_evaluation}
use Rattle.weld_exec.specs.Run.{evaluation_of, rows_at}
use Rattle.weld_exec.proofs.Tiling.{so_far_as, stored}
use Rattle.weld_exec.proofs.RowsLeft.{stored_rows}
use Rattle.weld_exec.proofs.env.Env.store.Goals as goal

pub returns-in-Ok-clause-ready : goal.returns-in-Ok-clause-ready
returns-in-Ok-clause-ready c = record {
  plan = c.requires.at.plan;
  leads = stored c.args.plan.now c.args.self.now c.args.at (thing_of c.into_thing.result) c.loop_at-node.result.now (things_of c.drop_top.new.stack) (things_of c.drop_vectors.new.stack) (things_of c.push.new.stack) c.requires.at
      (so_far_as (evaluation_of c.args.plan.now c.args.self.now) (joined_evaluation c.args.value) c.args.value.end (rows_at c.args.self.now) (thing_of c.into_thing.result) c.requires.evaluation c.requires.end c.into_thing.ensures.so_far)
      c.loop_at-node.ensures c.drop_top.ensures c.drop_vectors.ensures c.in-Ok.ensures;
}

pub returns-in-Ok-clause-rows : goal.returns-in-Ok-clause-rows
returns-in-Ok-clause-rows c =
    stored_rows c.args.plan.now c.args.self.now c.args.at (thing_of c.into_thing.result) c.loop_at-node.result.now (things_of c.drop_top.new.stack) (things_of c.drop_vectors.new.stack) (things_of c.push.new.stack) c.requires.at
    (so_far_as (evaluation_of c.args.plan.now c.args.self.now) (joined_evaluation c.args.value) c.args.value.end (rows_at c.args.self.now) (thing_of c.into_thing.result) c.requires.evaluation c.requires.end c.into_thing.ensures.so_far)
    c.loop_at-node.ensures c.drop_top.ensures c.drop_vectors.ensures c.in-Ok.ensures
