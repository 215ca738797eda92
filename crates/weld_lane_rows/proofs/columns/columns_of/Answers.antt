use Rattle.weld_lane_rows.proofs.ColumnLemmas.{one_rows, two_rows}
use Rattle.weld_lane_rows.proofs.columns.columns_of.Goals as goal

pub returns-in-End-rest : goal.returns-in-End-rest
returns-in-End-rest g c =
    one_rows g.L.Lane.number g.L.Lane.kind c.args.legs.now c.in-And.column c.in-And.rest c.in-Some.first.now c.args.to c.in-And.is c.in-End-rest.is c.in-Some.ensures

pub returns-in-Some-cells_of : goal.returns-in-Some-cells_of
returns-in-Some-cells_of g c =
    two_rows g.L.Lane.number g.L.Lane.kind c.args.legs.now c.in-And.column c.in-And-rest.column c.in-And.rest c.in-And-rest.more c.in-Some.first.now c.in-Some-cells_of.second.now c.args.to
    c.in-And.is c.in-And-rest.is c.in-End-more.is c.in-Some.ensures c.in-Some-cells_of.ensures
