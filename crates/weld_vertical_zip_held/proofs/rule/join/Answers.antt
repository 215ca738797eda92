use Rattle.std.proofs.lemmas.Result.{IfOk-weaker}
use Rattle.std.proofs.Common.{map, ◌∙◌}
use Rattle.weld_tree.specs.ExprTree.{pack_legs}
use Rattle.weld_tree.specs.ExprView.{view_leg}
use Rattle.weld_vertical_zip_held.proofs.Cutting.{join_is}
use Rattle.weld_vertical_zip_held.proofs.rule.join.Goals as goal

pub returns : goal.returns
returns c =
    let cut = c.in_ok-others.field-0 in
    let consumer = c.args.consumer in
    IfOk-weaker c.over_all.result _ _
    (λ form h at here noted.
    h at
    ∙ join_is at c.args.ty.now c.args.place (pack_legs c.args.legs) (pack_legs (map view_leg cut.others.before.items)) (pack_legs (map view_leg cut.others.after.items)) cut.producer.value c.deref_mut.result.now _ c.args.start.value consumer.builder consumer.number consumer.row consumer.body.value
    c.in_ok-others.ensures c.deref_mut.ensures.value c.in_ok-hand_producer.ensures here noted)
    c.over_all.ensures
