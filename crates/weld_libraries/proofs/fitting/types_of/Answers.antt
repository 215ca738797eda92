use Rattle.std.proofs.Common.{sym, ◌∙◌}
use Rattle.weld_libraries.proofs.Places.{now_of, none_of, nothing_yet, one_there, one_missing, all_there}
use Rattle.weld_libraries.proofs.fitting.types_of.Goals as goal

pub returns-in_default : goal.returns-in_default
returns-in_default c =
    one_missing c.args.graph.now c.args.ids.now c.loop-id.types c.loop-id.id-index (record { 0 = 0 }) c.loop-id-test.true (sym c.ty_of.ensures ∙ none_of c.ty_of.result c.in_default.is) c.loop-id.invariant

pub loop-id-preserved : goal.loop-id-preserved
loop-id-preserved c =
    one_there c.args.graph.now c.args.ids.now c.loop-id.types c.push_copy.new.types c.loop-id.id-index (record { 0 = 0 }) c.in-Some.ty.now c.loop-id-test.true
    (sym c.ty_of.ensures ∙ now_of c.ty_of.result c.in-Some.ty c.in-Some.is) c.in-Ok.ensures c.loop-id.invariant

pub returns : goal.returns
returns c = all_there c.args.graph.now c.args.ids.now c.loop-id.types c.loop-id.id-index c.loop-id-test.false c.loop-id.invariant

pub loop-id-init : goal.loop-id-init
loop-id-init c = nothing_yet c.args.graph.now c.args.ids.now c.new-types.result c.new-types.ensures
