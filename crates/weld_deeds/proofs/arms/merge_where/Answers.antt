use Rattle.std.proofs.Common.{◌≡◌, sym, ap, ◌∙◌}
use Rattle.weld_tree.specs.ExprTree.{At, two}
use Rattle.weld_tree.specs.ExprView.{view_form, view_two}
use Rattle.weld_tree.specs.declared.expr.Form.{Form}
use Rattle.weld_blocks.specs.Scope.{scope_env}
use Rattle.weld_deeds.proofs.ArmLemmas.{merge_where_of}
use Rattle.weld_deeds.proofs.arms.merge_where.Goals as goal

pub returns-then-is_quiet : goal.returns-then-is_quiet
returns-then-is_quiet c =
    let at : At = record { place = c.e.inside.place; ty = c.e.inside.ty } in
    let is : c.args.e.now ≡ two at (view_two c.in-Two.field-0) c.deref.result.now c.deref-then-is_quiet.result.now =
    sym c.e.view_is ∙ ap (λ (f : Form). view_form f at) c.in-Two.is ∙ (λ i. two at (view_two c.in-Two.field-0) (sym c.deref.ensures i) (sym c.deref-then-is_quiet.ensures i)) in
    merge_where_of c.item_where.result at (view_two c.in-Two.field-0) c.deref.result.now c.deref-then-is_quiet.result.now (scope_env c.args.scope.now) c.args.e.now c.args.truths.now c.args.truth c.args.count is c.requires (c.is_quiet.ensures c.if-is_quiet.true) c.item_where.ensures
