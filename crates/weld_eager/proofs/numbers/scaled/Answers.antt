use Rattle.std.proofs.Common.{arith}
use Rattle.weld_eager.proofs.Words.{cell_in_range}
use Rattle.weld_eager.proofs.Combining.{scaled_more, scaled_all}
use Rattle.weld_eager.proofs.numbers.scaled.Goals as goal

pub combine-requires-clause-left : goal.combine-requires-clause-left
combine-requires-clause-left c = cell_in_range c.args.kind c.args.xs.now c.loop-x.x-index c.requires.numbers (omega arith)

pub loop-x-preserved : goal.loop-x-preserved
loop-x-preserved c =
    scaled_more c.args.kind _ c.args.xs.now c.loop-x.zs.items c.push.new.self.items c.loop-x.x-index c.combine.result
    c.requires.numbers (omega arith) c.combine.ensures.in_range c.combine.ensures.value c.in_ok-push.ensures.items c.loop-x.invariant

pub returns : goal.returns
returns c = record { value = scaled_all c.args.kind c.args.s c.args.xs.now c.loop-x.zs.items c.loop-x.x-index c.requires.number (omega (arith, c.loop-x-test.false)) c.loop-x.invariant }
