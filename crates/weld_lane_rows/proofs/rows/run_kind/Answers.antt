use Rattle.std.proofs.Common.{ap, sym, ◌∙◌}
use Rattle.weld_tree.specs.declared.binder.Binder.{Binder}
use Rattle.weld_tree.specs.declared.expr.Form.{Form}
use Rattle.weld_tree.specs.ExprTree.{At}
use Rattle.weld_tree.specs.ExprView.{view_form}
use Rattle.weld_lane_rows.proofs.Meaning.{loop_of}
use Rattle.weld_lane_rows.proofs.rows.run_kind.Goals as goal

pub run_columns-requires-clause-named : goal.run_columns-requires-clause-named
run_columns-requires-clause-named g c =
    let p : At = record { place = c.node.inside.place; ty = c.node.inside.ty } in
    loop_of c.args.node.now p _ _ _ _ _ _ _ _ (sym c.node.view_is ∙ ap (λ (f : Form). view_form f p) c.in-For.is)
    (ap (λ (b : Binder). b.sym.0) (sym c.deref-in-For-2.ensures)) (ap (λ (b : Binder). b.sym.0) (sym c.deref-in-For.ensures)) (ap (λ (b : Binder). b.sym.0) (sym c.deref.ensures)) (sym c.deref-in-For-3.ensures)
