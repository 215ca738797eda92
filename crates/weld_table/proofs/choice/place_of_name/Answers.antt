use Rattle.std.proofs.Common.{◌∙◌, sym, ◌<◌, length, arith}
use Rattle.csv.specs.Records.{fields_of}
use Rattle.weld_table.proofs.Choosing.{found_here, sought_more, field_is}
use Rattle.weld_table.proofs.choice.place_of_name.Goals as goal

pub returns-then-is_named : goal.returns-then-is_named
returns-then-is_named c =
    let below : c.loop-i.i < length (fields_of c.args.header.now) = omega (arith, c.loop-i-test.true, c.len-i-end.ensures) in
    let f = field_is (fields_of c.args.header.now) c.loop-i.i below in
    sym (found_here c.args.name.now (fields_of c.args.header.now) c.loop-i.i f.0 c.loop-i.invariant f.1
    (sym (c.is_named.ensures f.0 f.1) ∙ c.if-is_named.true))

pub loop-i-preserved : goal.loop-i-preserved
loop-i-preserved c =
    let below : c.loop-i.i < length (fields_of c.args.header.now) = omega (arith, c.loop-i-test.true, c.len-i-end.ensures) in
    let f = field_is (fields_of c.args.header.now) c.loop-i.i below in
    sought_more c.args.name.now (fields_of c.args.header.now) c.loop-i.i f.0 c.loop-i.invariant f.1
    (sym (c.is_named.ensures f.0 f.1) ∙ c.if-is_named.false)
