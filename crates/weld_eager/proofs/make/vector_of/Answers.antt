use Rattle.std.proofs.Common.{arith}
use Rattle.weld_eager.proofs.Words.{cell_in_range}
use Rattle.weld_eager.proofs.make.vector_of.Goals as goal

pub invariant_of-push : goal.invariant_of-push
invariant_of-push c = record { in_range = cell_in_range c.args.kind c.args.xs.now c.loop-x.x-index c.requires (omega arith) }
