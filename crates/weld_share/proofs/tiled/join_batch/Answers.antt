use Rattle.std.proofs.Common.{drop, sym, subst, ◌∙◌}
use Rattle.std.specs.Vec.Iter.{into_iter_items}
use denote.Builtin.{unit}
use denote.Exit.{no}
use denote.Param.Send.{param_sync, arg_sync}
use Rattle.weld_tile_parts.specs.declared.joined.Joined.{Joined}
use Rattle.weld_tile_parts.specs.Parts.{joined_evaluation}
use Rattle.weld_exec.specs.Run.{rows_at}
use Rattle.weld_share.specs.Mapped.{AreAnswers}
use Rattle.weld_share.proofs.Following.{parted_stretches, batch_within, batch_answers, answer_follows, answer_evaluation, answer_stops, answers_on}
use Rattle.weld_share.proofs.Shared.{tiled_sync}
use Rattle.weld_share.proofs.tiled.join_batch.Goals as goal

pub map_stretches-requires-sync-T : goal.map_stretches-requires-sync-T
map_stretches-requires-sync-T g c κs within = param_sync 0 _ (arg_sync _ no _ (tiled_sync _ _ _ c.type_bounds.sync-G))

pub map_stretches-requires-after_bounds : goal.map_stretches-requires-after_bounds
map_stretches-requires-after_bounds g c κs within k d low = (
  c.requires.at,
  batch_within c.args.joined.next c.args.joined.end (rows_at c.args.run.now.env.now) c.split_at.result.0.now (drop c.args.len c.args.left.now)
      (parted_stretches c.args.joined.next c.args.joined.end (rows_at c.args.run.now.env.now) c.args.len c.args.left.now c.split_at.result.0.now c.requires.stretches c.split_at.ensures.front) k d low,
)

pub loop-answer-init : goal.loop-answer-init
loop-answer-init g c = record {
  whole = c.requires.whole;
  evaluation = c.requires.evaluation;
  answers = subst (AreAnswers c.args.run.now.plan.now c.args.run.now.env.now c.args.joined.next c.args.joined.end (rows_at c.args.run.now.env.now) (drop c.args.len c.args.left.now)) (sym c.into_iter-answer-iterator.ensures.into_iter_gives.0)
      (batch_answers c.args.run.now.plan.now c.args.run.now.env.now c.args.joined.next c.args.joined.end (rows_at c.args.run.now.env.now) c.split_at.result.0.now (drop c.args.len c.args.left.now) c.in-Ok.answers.items
      (parted_stretches c.args.joined.next c.args.joined.end (rows_at c.args.run.now.env.now) c.args.len c.args.left.now c.split_at.result.0.now c.requires.stretches c.split_at.ensures.front) c.in-Ok.ensures);
}

pub enter_one-requires-clause-follows : goal.enter_one-requires-clause-follows
enter_one-requires-clause-follows g c =
    let all = subst (AreAnswers c.args.run.now.plan.now c.args.run.now.env.now c.loop-answer.joined.next c.loop-answer.joined.end (rows_at c.args.run.now.env.now) (drop c.args.len c.args.left.now)) c.in-Some.ensures.steps.0 c.loop-answer.invariant.answers in
    answer_follows c.args.run.now.plan.now c.args.run.now.env.now all.0 c.loop-answer.joined.next c.loop-answer.joined.end c.in-Some.answer all.1 all.2

pub enter_one-requires-clause-evaluation : goal.enter_one-requires-clause-evaluation
enter_one-requires-clause-evaluation g c =
    let all = subst (AreAnswers c.args.run.now.plan.now c.args.run.now.env.now c.loop-answer.joined.next c.loop-answer.joined.end (rows_at c.args.run.now.env.now) (drop c.args.len c.args.left.now)) c.in-Some.ensures.steps.0 c.loop-answer.invariant.answers in
    answer_evaluation c.args.run.now.plan.now c.args.run.now.env.now all.0 (joined_evaluation c.loop-answer.joined) c.in-Some.answer c.loop-answer.invariant.evaluation all.2

pub loop-answer-preserved : goal.loop-answer-preserved
loop-answer-preserved g c =
    let all = subst (AreAnswers c.args.run.now.plan.now c.args.run.now.env.now c.loop-answer.joined.next c.loop-answer.joined.end (rows_at c.args.run.now.env.now) (drop c.args.len c.args.left.now)) c.in-Some.ensures.steps.0 c.loop-answer.invariant.answers in
    record {
      whole = c.in-Ok-enter_one.ensures.whole;
      evaluation = c.in-Ok-enter_one.ensures.evaluation ∙ c.loop-answer.invariant.evaluation;
      answers = answers_on c.args.run.now.plan.now c.args.run.now.env.now c.loop-answer.joined.next c.loop-answer.joined.end (rows_at c.args.run.now.env.now) all.0 c.enter_one.new.into.next c.enter_one.new.into.end (drop c.args.len c.args.left.now)
          c.in-Some.answer (into_iter_items c.next.new.self) all.1 all.2 c.in-Ok-enter_one.ensures.on all.3;
    }

pub returns-in-Err-enter_one-clause-fault : goal.returns-in-Err-enter_one-clause-fault
returns-in-Err-enter_one-clause-fault g c =
    let all = subst (AreAnswers c.args.run.now.plan.now c.args.run.now.env.now c.loop-answer.joined.next c.loop-answer.joined.end (rows_at c.args.run.now.env.now) (drop c.args.len c.args.left.now)) c.in-Some.ensures.steps.0 c.loop-answer.invariant.answers in
    answer_stops unit.Denot Joined c.in-Err-enter_one.stop c.args.run.now.plan.now c.args.run.now.env.now all.0 c.in-Some.answer all.2 c.in-Err-enter_one.ensures.fault
