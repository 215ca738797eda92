use Rattle.weld_script.proofs.Rows.{one_more}
use Rattle.weld_script.proofs.soak.table.columns_of.Goals as goal

pub loop-i-preserved : goal.loop-i-preserved
loop-i-preserved c =
    one_more c.args.seed c.args.rows c.loop-i.i c.loop-i.number c.in_ok-number.number c.loop-i.columns.k c.loop-i.columns.x c.loop-i.columns.y
    c.add_row.new.columns.k c.add_row.new.columns.x c.add_row.new.columns.y c.loop-i-test.true c.loop-i.invariant
    c.in_ok-number.ensures.k c.in_ok-number.ensures.x c.in_ok-number.ensures.y c.in_ok-number.ensures.number c.in_ok-number.ensures.small
