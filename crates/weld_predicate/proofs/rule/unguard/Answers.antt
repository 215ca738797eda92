use Rattle.std.proofs.Common.{◌≡◌, sym, ap, ◌∙◌}
use Rattle.weld_tree.specs.ExprTree.{At, three}
use Rattle.weld_tree.specs.ExprView.{view_form, view_three}
use Rattle.weld_tree.specs.declared.expr.Form.{Form}
use Rattle.weld_predicate.proofs.Arms.{other_merges}
use Rattle.weld_predicate.proofs.rule.unguard.Goals as goal

pub merge_always-requires-else-is_guarded : goal.merge_always-requires-else-is_guarded
merge_always-requires-else-is_guarded c =
    let at : At = record { place = c.e.inside.place; ty = c.e.inside.ty } in
    let is : c.args.e.now ≡ three at (view_three c.in-Three.field-0) c.in-Three.condition.value c.in-Three.then.value c.in-Three.otherwise.value =
    sym c.e.view_is ∙ ap (λ (f : Form). view_form f at) c.in-Three.is in
    other_merges c.args.e.now at (view_three c.in-Three.field-0) c.in-Three.condition.value c.in-Three.then.value c.in-Three.otherwise.value c.deref.result.now c.deref-2.result.now
    c.deref_mut-else-is_guarded.result.now c.is_guarded.result is c.requires c.is_guarded.ensures c.if-is_guarded.false c.deref.ensures c.deref-2.ensures c.deref_mut-else-is_guarded.ensures.value
