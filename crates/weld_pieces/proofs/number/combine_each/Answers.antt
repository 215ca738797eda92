use Rattle.std.proofs.Common.{arith}
use Rattle.weld_pieces.proofs.CellLemmas.{bits_in_range, cell_in_range, total_step}
use Rattle.weld_pieces.proofs.number.combine_each.Goals as goal

pub combine_kept-total-requires-clause-left : goal.combine_kept-total-requires-clause-left
combine_kept-total-requires-clause-left c = c.loop-i.invariant.0

pub combine_kept-total-requires-clause-right : goal.combine_kept-total-requires-clause-right
combine_kept-total-requires-clause-right c = cell_in_range c.args.kind c.args.items.now c.loop-i.i c.requires.narrow c.requires.items (omega arith)

pub loop-i-preserved : goal.loop-i-preserved
loop-i-preserved c = (
  bits_in_range c.args.kind c.combine_kept-total.result c.requires.narrow c.combine_kept-total.ensures.in_range,
  total_step c.args.op c.args.kind _ _ c.combine_kept-total.result c.args.items.now c.loop-i.i c.requires.narrow (omega arith) c.requires.items c.combine_kept-total.ensures.in_range c.loop-i.invariant.1 c.combine_kept-total.ensures.value,
)
