use Rattle.std.proofs.Common.{sym, ◌∙◌, take_all, add-one, arith}
use Rattle.weld_data.proofs.Keys.{fields_at, length-fields, ListStands-at, take-agree}
use Rattle.weld_data.proofs.value.order.compare_structs.Goals as goal

pub at-requires-in-loop-i : goal.at-requires-in-loop-i
at-requires-in-loop-i c =
    let same = length-fields c.args.a.now c.args.b.now c.requires in omega arith

pub compare_fields-requires : goal.compare_fields-requires
compare_fields-requires c =
    fields_at c.args.a.now c.args.b.now c.loop-i.i _ _ c.requires c.at.ensures c.at-in-loop-i.ensures

pub returns-in_default : goal.returns-in_default
returns-in_default c =
    ListStands-at c.compare_fields.result c.args.a.now c.args.b.now c.loop-i.i _ _ c.at.ensures c.at-in-loop-i.ensures c.loop-i.invariant c.compare_fields.ensures c.in_default.not-Equal

pub loop-i-preserved : goal.loop-i-preserved
loop-i-preserved c =
    rw add-one
    (take-agree c.args.a.now c.args.b.now c.loop-i.i _ _ c.at.ensures c.at-in-loop-i.ensures c.in-Equal.ensures c.loop-i.invariant)

pub returns : goal.returns
returns c =
    let same = length-fields c.args.a.now c.args.b.now c.requires in
    sym (take_all c.loop-i.i c.args.a.now (omega arith)) ∙ c.loop-i.invariant ∙ take_all c.loop-i.i c.args.b.now (omega arith)
