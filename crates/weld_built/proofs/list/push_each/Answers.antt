use Rattle.std.proofs.Common.{arith}
use Rattle.weld_pieces.proofs.CellLemmas.{cell_in_range}
use Rattle.weld_built.proofs.list.push_each.Goals as goal

pub push_number-requires : goal.push_number-requires
push_number-requires c = cell_in_range c.args.kind c.args.items.now c.loop-i.i c.requires.narrow c.requires.in_range (omega arith)
