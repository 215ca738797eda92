use Rattle.std.proofs.Common.{sym, subst, arith}
use Rattle.weld_data.specs.Kind.{InRange}
use Rattle.weld_pieces.proofs.CellLemmas.{wide_bits_in_range, word_in_range}
use Rattle.weld_pieces.proofs.cells.list_of.Goals as goal

pub push_wide-requires-clause-in_range : goal.push_wide-requires-clause-in_range
push_wide-requires-clause-in_range c =
    wide_bits_in_range c.args.kind c.wide.result
    (subst (InRange c.args.kind) (sym c.wide.ensures) (word_in_range c.args.kind c.args.words.now c.loop-x.x-index c.requires (omega arith)))
