use Rattle.std.proofs.Common.{arith}
use Rattle.weld_data.specs.Operation.{start_of}
use Rattle.weld_eager.proofs.Words.{cell_in_range}
use Rattle.weld_eager.proofs.Combining.{total_more}
use Rattle.weld_eager.proofs.numbers.total.Goals as goal

pub combine-value-requires-clause-right : goal.combine-value-requires-clause-right
combine-value-requires-clause-right c = cell_in_range c.args.kind c.args.xs.now c.loop-x.x-index c.requires.in_range (omega arith)

pub loop-x-preserved : goal.loop-x-preserved
loop-x-preserved c =
    total_more c.args.op c.args.kind (start_of c.args.op c.args.kind) _ c.combine-value.result c.args.xs.now c.loop-x.x-index
    c.requires.in_range (omega arith) c.loop-x.invariant.0 c.combine-value.ensures.in_range c.combine-value.ensures.value
