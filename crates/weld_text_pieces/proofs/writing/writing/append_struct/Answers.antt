use Rattle.std.proofs.Common.{◌<◌, List, length, rules, sym, subst, ap, arith}
use Rattle.weld_data.specs.Value.{values}
use Rattle.weld_data.specs.View.{view_val}
use Rattle.weld_tree.specs.TypeTree.{TypeTree, pack}
use Rattle.weld_tree.specs.HasValue.{HaveValues}
use Rattle.weld_text_pieces.proofs.Fields.{have_length, field_typed, field_written}
use Rattle.weld_text_pieces.proofs.writing.writing.append_struct.Goals as goal

pub at-requires : goal.at-requires
at-requires g c =
    let e = have_length c.args.fields.now c.args.vals.now c.requires.typed in
    let within : c.fields.i < length c.as_slice-types.result.now = search rules in
    omega (arith, within, e, ap length c.as_slice-types.ensures.value)

pub append_value-requires : goal.append_value-requires
append_value-requires g c =
    let ts = c.as_slice-types.result.now in
    let within : c.fields.i < length c.as_slice-types.result.now = search rules in
    let have = subst (λ (us : List TypeTree). HaveValues (pack us) (values c.args.vals.now)) (sym c.as_slice-types.ensures.value) c.requires.typed in
    (search rules, (field_typed ts c.args.vals.now c.fields.i c.index-types-i.result (view_val c.at.result.now) within c.index-types-i.is c.at.ensures have, c.requires.some_worker))

pub fields-preserved : goal.fields-preserved
fields-preserved g c =
    let ts = c.as_slice-types.result.now in
    let within : c.fields.i < length c.as_slice-types.result.now = search rules in
    let have = subst (λ (us : List TypeTree). HaveValues (pack us) (values c.args.vals.now)) (sym c.as_slice-types.ensures.value) c.requires.typed in
    field_written ts c.args.vals.now c.fields.i c.fields.lead c.index-types-i.result (view_val c.at.result.now) c.fields.out c.push.new.self c.append_value.new.out _ within c.index-types-i.is c.at.ensures have c.in_ok-push.ensures.ok c.in_ok-append_value.ensures c.fields.invariant
