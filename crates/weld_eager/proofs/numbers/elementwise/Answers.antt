use Rattle.std.proofs.Common.{arith, sym, ◌∙◌}
use Rattle.weld_eager.proofs.Words.{cell_in_range}
use Rattle.weld_eager.proofs.Combining.{pushed, elementwise_apart, elementwise_more, elementwise_stops, all_in_range_more}
use Rattle.weld_eager.proofs.numbers.elementwise.Goals as goal

pub returns-then-xs-ys-clause-answer : goal.returns-then-xs-ys-clause-answer
returns-then-xs-ys-clause-answer c = elementwise_apart c.args.op c.args.kind c.args.xs.now c.args.ys.now c.if-xs-ys.true

pub operated_one-requires-clause-left : goal.operated_one-requires-clause-left
operated_one-requires-clause-left c = cell_in_range c.args.kind c.args.xs.now c.loop-i.i c.requires.left (omega arith)

pub operated_one-requires-clause-right : goal.operated_one-requires-clause-right
operated_one-requires-clause-right c = cell_in_range c.args.kind c.args.ys.now c.loop-i.i c.requires.right (omega arith)

pub returns-in_default-clause-answer : goal.returns-in_default-clause-answer
returns-in_default-clause-answer c =
    elementwise_stops c.args.op c.args.kind c.args.xs.now c.args.ys.now c.loop-i.zs.items c.loop-i.i c.requires.left c.requires.right (omega arith) c.loop-i.invariant.2
    (sym c.in_default.is ∙ c.operated_one.ensures.value) c.loop-i.invariant.0

pub loop-i-preserved : goal.loop-i-preserved
loop-i-preserved c =
    let more = pushed c.args.kind c.loop-i.zs.items c.push.new.self.items c.in-Some.z c.in-Some.ensures.in_range c.in_ok-push.ensures.items in (
      elementwise_more c.args.op c.args.kind c.args.xs.now c.args.ys.now c.loop-i.zs.items c.push.new.self.items c.loop-i.i c.in-Some.z c.requires.left c.requires.right (omega arith) c.loop-i.invariant.2
          c.in-Some.ensures.value more c.loop-i.invariant.0,
      all_in_range_more c.args.kind c.loop-i.zs.items c.push.new.self.items c.in-Some.z c.loop-i.invariant.1 c.in-Some.ensures.in_range more,
      c.loop-i.invariant.2,
    )
