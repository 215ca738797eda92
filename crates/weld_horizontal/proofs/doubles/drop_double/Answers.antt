use Rattle.std.proofs.Common.{◌≡◌, sym, ap, ◌∙◌}
use Rattle.weld_tree.specs.ExprTree.{At, loop, pack_legs}
use Rattle.weld_tree.specs.ExprView.{view_form}
use Rattle.weld_tree.specs.declared.expr.Form.{Form}
use Rattle.weld_horizontal.proofs.Dropped.{few_there}
use Rattle.weld_horizontal.proofs.doubles.drop_double.Goals as goal

pub drop_leg-requires-clause-few : goal.drop_leg-requires-clause-few
drop_leg-requires-clause-few c =
    let at : At = record { place = c.e.inside.place; ty = c.e.inside.ty } in
    let is : c.args.e.now ≡ loop at (pack_legs c.in-For.legs) c.in-For.field-1.value c.in-For.field-2.value c.in-For.field-3.value c.in-For.row.value c.in-For.body.value =
    sym c.e.view_is ∙ ap (λ (f : Form). view_form f at) c.in-For.is in
    few_there c.args.e.now at c.in-For.legs c.in-For.field-1.value c.in-For.field-2.value c.in-For.field-3.value c.in-For.row.value c.in-For.body.value is c.requires
