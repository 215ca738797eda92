use Rattle.std.proofs.Common.{◌≡◌, length, sym, ap, subst, ◌∙◌}
use Rattle.std.specs.Vec.Iter.{into_iter_items}
use Rattle.weld_eval.specs.ThingView.{thing_of}
use Rattle.weld_eval.specs.declared.thing.Owned.{Owned}
use Rattle.weld_board.specs.Spans.{AreSpans}
use Rattle.weld_share.specs.Shared.{HasMade, row_of}
use Rattle.weld_share.proofs.Spanning.{none_spanned}
use Rattle.weld_share.proofs.sharing.enter_spans.Goals as goal

pub loop-span-init : goal.loop-span-init
loop-span-init g c = record {
  whole = c.requires.whole;
  evaluation = c.requires.evaluation;
  left = (
    0,
    subst (AreSpans (λ first next (part : Owned). HasMade c.args.run.now.plan.now c.args.run.now.env.now c.args.batch.now first next (thing_of part)) 0 (length c.args.batch.now)) (sym c.into_iter-span-iterator.ensures.into_iter_gives.0) c.requires.spans,
    c.requires.begins,
  );
}

pub returns-clause-ends : goal.returns-clause-ends
returns-clause-ends g c =
    let left = c.loop-span.invariant.left in
    let count : length (into_iter_items c.loop-span.span-iterator) ≡ 0 = sym c.loop-span.span-iterator.rest.ok.0 ∙ c.in-None.ensures.steps.0 in
    let all = none_spanned (λ first next (part : Owned). HasMade c.args.run.now.plan.now c.args.run.now.env.now c.args.batch.now first next (thing_of part)) left.0 (length c.args.batch.now) (into_iter_items c.loop-span.span-iterator) count left.1 in
    left.2 ∙ ap (row_of c.args.batch.now) all
