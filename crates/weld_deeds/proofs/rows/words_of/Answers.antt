use Rattle.weld_deeds.proofs.RowLemmas.{row_longer, words_more}
use Rattle.weld_deeds.proofs.rows.words_of.Goals as goal

pub push_words-requires : goal.push_words-requires
push_words-requires c = row_longer c.args.columns.now c.args.count c.rows.place c.requires c.rows-test.true

pub rows-preserved : goal.rows-preserved
rows-preserved c =
    words_more c.args.columns.now c.args.count c.rows.place c.rows.words.items c.push_words.new.words.items _ c.rows-test.true c.in_ok-push_words.ensures c.rows.invariant
