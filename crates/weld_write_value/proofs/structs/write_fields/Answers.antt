use Rattle.std.proofs.Common.{◌<◌, ◌≤◌, length, ap, arith}
use Rattle.weld_data.specs.View.{view_packed}
use Rattle.weld_write_value.proofs.Texts.{on_ok}
use Rattle.weld_write_value.proofs.StructTexts.{number_more, none_more, fields_end}
use Rattle.weld_write_value.proofs.structs.write_fields.Goals as goal

pub unreachable-requires : goal.unreachable-requires
unreachable-requires c =
    let within : c.fields.i < length c.args.fields.now = omega (arith, c.fields-test.true, ap length c.as_slice-types.ensures.value) in
    none_more c.args.fields.now (view_packed c.args.row) c.fields.i within c.requires c.in-None.ensures

pub fields-preserved : goal.fields-preserved
fields-preserved c =
    let within : c.fields.i < length c.args.fields.now = omega (arith, c.fields-test.true, ap length c.as_slice-types.ensures.value) in
    number_more c.args.fields.now (view_packed c.args.row) c.fields.i c.fields.lead c.in-Some.number.kind c.in-Some.number.value c.fields.out c.push.new.self c.write_number.new.out _ within c.requires c.in-Some.ensures c.in_ok-push.ensures.ok c.in_ok-write_number-in-Some.ensures c.fields.invariant

pub returns : goal.returns
returns c =
    let over : length c.args.fields.now ≤ c.fields.i = omega (arith, c.fields-test.false, ap length c.as_slice-types.ensures.value) in
    on_ok c.push-2.result c.push-2.ensures.ok
    (fields_end c.args.fields.now (view_packed c.args.row) c.fields.i c.fields.lead c.fields.out c.args.out.now c.push-2.new.self over c.requires c.fields.invariant)
