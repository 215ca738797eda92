use Rattle.weld_pieces.specs.Totals.{totals_in, rows_joined}
use Rattle.weld_pieces.proofs.TotalLemmas.{rows_there, first_row, row_step}
use Rattle.weld_pieces.proofs.totals.add_rows.Goals as goal

pub split_at-requires : goal.split_at-requires
split_at-requires c = rows_there c.rows.totals c.rows.left.now c.args.count c.rows.i c.rows-test.true c.rows.invariant.1

pub add_words-requires-clause-words : goal.add_words-requires-clause-words
add_words-requires-clause-words c = first_row c.rows.totals c.rows.left.now c.args.count c.rows.i c.rows-test.true c.rows.invariant.1

pub rows-preserved : goal.rows-preserved
rows-preserved c =
    let t = row_step c.args.op (rows_joined c.args.op (totals_in c.args.totals.now) c.args.numbers.now c.args.count) c.rows.totals c.add_words.new.totals c.rows.left.now c.split_at.result.1.now c.args.count c.rows.i
    c.rows-test.true c.split_at.ensures.back c.add_words.ensures.totals (c.rows.invariant.0, c.rows.invariant.1) in
    (t.0, t.1, c.add_words.ensures.integers)
