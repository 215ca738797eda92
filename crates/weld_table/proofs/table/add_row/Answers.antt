use Rattle.std.proofs.Common.{length, ◌∙◌, arith, ◌<◌}
use Rattle.std.proofs.Math.ListN.{length-set}
use Rattle.csv.specs.Records.{fields_of}
use Rattle.weld_table.specs.Cells.{HasGrown}
use Rattle.weld_table.proofs.Zipped.{zip_more, left_more, zipped}
use Rattle.weld_table.proofs.table.add_row.Goals as goal

pub loop-column-preserved : goal.loop-column-preserved
loop-column-preserved c =
    let inv = c.loop-column.invariant in
    let there : c.loop-column.column-index < length c.loop-column.columns = omega (arith, c.loop-column-test.true, inv.same) in
    record {
      same = length-set c.loop-column.columns c.loop-column.column-index c.add.new.self ∙ inv.same;
      read = zip_more (HasGrown (fields_of c.args.row.now)) c.args.columns.now c.loop-column.columns c.loop-column.column-index c.column-item.result c.add.new.self
          there inv.same inv.read inv.left (c.in_ok-add.ensures.place, c.in_ok-add.ensures.read);
      left = left_more c.args.columns.now c.loop-column.columns c.loop-column.column-index c.add.new.self inv.left;
    }

pub returns : goal.returns
returns c =
    let inv = c.loop-column.invariant in
    zipped (HasGrown (fields_of c.args.row.now)) c.args.columns.now c.loop-column.columns inv.same
    (λ k d h. let below : k < c.loop-column.column-index = omega (arith, h, inv.same, c.loop-column-test.false) in inv.read k d below)
