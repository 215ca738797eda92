use Rattle.std.proofs.Common.{◌≡◌, sym, ap, ◌∙◌}
use Rattle.weld_tree.specs.ExprTree.{At, three}
use Rattle.weld_tree.specs.ExprView.{view_form, view_three}
use Rattle.weld_tree.specs.declared.expr.Form.{Form}
use Rattle.weld_blocks.specs.Scope.{scope_env}
use Rattle.weld_blocks.proofs.StructLemmas.{chosen_structs}
use Rattle.weld_blocks.proofs.structs.+structs.Goals as goal

pub chosen_columns-returns-in-Some-columns_of-2 : goal.chosen_columns-returns-in-Some-columns_of-2
chosen_columns-returns-in-Some-columns_of-2 t c =
    let at : At = record { place = c.item.inside.place; ty = c.item.inside.ty } in
    let is : c.args.item.now ≡ three at (view_three c.in-Three.field-0) c.deref.result.now c.deref-in-Three.result.now c.deref-in-Three-2.result.now =
    sym c.item.view_is ∙ ap (λ (f : Form). view_form f at) c.in-Three.is ∙ (λ i. three at (view_three c.in-Three.field-0) (sym c.deref.ensures i) (sym c.deref-in-Three.ensures i) (sym c.deref-in-Three-2.ensures i)) in
    chosen_structs c.choose_columns.result at (view_three c.in-Three.field-0) c.deref.result.now c.deref-in-Three.result.now c.deref-in-Three-2.result.now (scope_env c.args.scope.now) c.args.item.now
    c.in-Some.condition c.in-Some-columns_of.then.items c.in-Some-columns_of-2.otherwise.items c.args.count is c.requires c.in-Some.ensures c.in-Some-columns_of.ensures c.in-Some-columns_of-2.ensures c.choose_columns.ensures
