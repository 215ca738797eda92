use Rattle.std.proofs.Common.{arith}
use Rattle.weld_pieces.proofs.CellLemmas.{cell_in_range}
use Rattle.weld_pieces.proofs.words.write_words.Goals as goal

pub of_word-requires : goal.of_word-requires
of_word-requires g c = cell_in_range g.T.FromWord.kind c.args.words.now c.loop-place.place c.requires.narrow c.requires.in_range (omega arith)
