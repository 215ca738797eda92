use Rattle.std.proofs.Common.{arith}
use Rattle.weld_pieces.proofs.CellLemmas.{word_in_range, cells_step}
use Rattle.weld_pieces.proofs.cells.add_cells.Goals as goal

pub combine_words-requires-clause-left : goal.combine_words-requires-clause-left
combine_words-requires-clause-left c = word_in_range c.args.kind c.loop-i.cells c.loop-i.i c.loop-i.invariant.1 (omega arith)

pub combine_words-requires-clause-right : goal.combine_words-requires-clause-right
combine_words-requires-clause-right c = word_in_range c.args.kind c.args.later.now c.loop-i.i c.requires.later (omega arith)

pub loop-i-preserved : goal.loop-i-preserved
loop-i-preserved c =
    cells_step c.args.op c.args.kind c.args.cells.now c.args.later.now c.loop-i.cells c.loop-i.i c.combine_words.result
    (omega arith) (omega arith) c.requires.count c.loop-i.invariant.0 c.loop-i.invariant.1 c.requires.later c.combine_words.ensures.value c.combine_words.ensures.in_range
