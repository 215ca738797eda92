use Rattle.std.proofs.Common.{arith}
use Rattle.weld_eager.proofs.Combining.{pushed, all_in_range_more}
use Rattle.weld_eager.proofs.Choosing.{chosen_apart, chosen_unmarked, chosen_more, picked_in_range}
use Rattle.weld_eager.proofs.numbers.chosen.Goals as goal

pub returns-then-xs-ys-clause-answer : goal.returns-then-xs-ys-clause-answer
returns-then-xs-ys-clause-answer c = chosen_apart c.args.marks.now c.args.xs.now c.args.ys.now c.if-xs-ys.true

pub returns-then-marks-xs-clause-answer : goal.returns-then-marks-xs-clause-answer
returns-then-marks-xs-clause-answer c = chosen_unmarked c.args.marks.now c.args.xs.now c.args.ys.now c.if-xs-ys.false c.if-marks-xs.true

pub loop-i-preserved : goal.loop-i-preserved
loop-i-preserved c =
    let fits = picked_in_range c.args.kind c.args.marks.now c.args.xs.now c.args.ys.now c.loop-i.i c.pick.result c.requires.left c.requires.right (omega arith) c.loop-i.invariant.1 c.pick.ensures in (
      chosen_more c.args.kind c.args.marks.now c.args.xs.now c.args.ys.now c.loop-i.zs.items c.push.new.self.items c.loop-i.i c.pick.result
          c.requires.left c.requires.right (omega arith) c.loop-i.invariant.1 c.loop-i.invariant.2 c.pick.ensures c.in_ok-push.ensures.items c.loop-i.invariant.0,
      c.loop-i.invariant.1,
      c.loop-i.invariant.2,
      all_in_range_more c.args.kind c.loop-i.zs.items c.push.new.self.items c.pick.result c.loop-i.invariant.3 fits
          (pushed c.args.kind c.loop-i.zs.items c.push.new.self.items c.pick.result fits c.in_ok-push.ensures.items),
    )
