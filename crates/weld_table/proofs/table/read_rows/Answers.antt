use Rattle.std.proofs.Common.{◌∙◌, sym, true}
use Rattle.csv.specs.Records.{fields_of}
use Rattle.weld_table.proofs.Growing.{Taken, seen_none, seen_more, seen_uneven, seen_all, there_more, all_stay}
use Rattle.weld_table.proofs.table.read_rows.Goals as goal

pub loop-row-init : goal.loop-row-init
loop-row-init c = record {
  stand = c.requires.stand;
  there = c.requires.there;
  so_far = seen_none c.args.reader.now c.args.width c.args.columns.now;
}

pub returns-then-len-width-clause-fault : goal.returns-then-len-width-clause-fault
returns-then-len-width-clause-fault c =
    seen_uneven c.args.reader.now c.loop-row.reader c.next_row.new.reader c.args.width (fields_of c.next_row.new.row) c.args.columns.now c.loop-row.columns
    c.loop-row.invariant.so_far (rw c.if-branch.true at c.in_ok-next_row.ensures.taken)
    (λ e. c.if-len-width.true (c.len.ensures ∙ e))

pub loop-row-smaller : goal.loop-row-smaller
loop-row-smaller c = c.in_ok-next_row.ensures.less c.if-branch.true c.loop-row.invariant.there.0 c.loop-row.invariant.there.1

pub loop-row-preserved : goal.loop-row-preserved
loop-row-preserved c =
    let row = fields_of c.next_row.new.row in
    let taken : Taken true c.loop-row.reader c.next_row.new.reader row = rw c.if-branch.true at c.in_ok-next_row.ensures.taken in
    record {
      stand = all_stay c.args.width row c.loop-row.columns c.add_row.new.columns c.in-Ok.ensures c.loop-row.invariant.stand;
      there = there_more c.loop-row.reader c.next_row.new.reader row taken c.loop-row.invariant.there.0 c.loop-row.invariant.there.1;
      so_far = seen_more c.args.reader.now c.loop-row.reader c.next_row.new.reader c.args.width row c.args.columns.now c.loop-row.columns c.add_row.new.columns
          c.loop-row.invariant.so_far taken (sym c.len.ensures ∙ c.if-len-width.false) c.in-Ok.ensures;
    }

pub returns-clause-read : goal.returns-clause-read
returns-clause-read c =
    seen_all c.args.reader.now c.loop-row.reader c.next_row.new.reader c.args.width (fields_of c.next_row.new.row) c.args.columns.now c.loop-row.columns
    c.loop-row.invariant.so_far (rw c.if-branch.false at c.in_ok-next_row.ensures.taken)
