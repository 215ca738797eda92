use Rattle.std.proofs.Common.{◌≡◌, ◌≢◌, List, length, ◌++◌, ◌∷◌, [], sym, ap, ◌∙◌, arith}
use Rattle.weld_tree.specs.ExprTree.{ExprTree, At, many, pack_exprs}
use Rattle.weld_tree.specs.declared.expr.Form.{Form}
use Rattle.weld_tree.specs.ExprView.{view_leg, view_form, view_many}
use Rattle.weld_tree.specs.Program.{loops}
use Rattle.weld_plan.specs.PlanView.{view_steps}
use Rattle.weld_plan.specs.StepTree.{StepTree, compute, apply_many, steps_of, all_steps}
use Rattle.weld_plan.proofs.Emitting.{on_ok, whole_added, many_added, some_nodes, some_leg_nodes}
use Rattle.weld_plan.proofs.emit.+add.Goals as goal

pub add-returns-then-loops-eq0 : goal.add-returns-then-loops-eq0
add-returns-then-loops-eq0 t c =
    let none : loops c.args.e.now ≡ 0 = omega arith in
    let steps : steps_of c.args.e.now c.args.base ≡ compute c.args.e.now ∷ [] = whole_added c.args.e.now c.args.base none in
    grind (arith, steps)

pub add_all-add_all-requires : goal.add_all-add_all-requires
add_all-add_all-requires t c = grind (arith, some_nodes c.in-Some.first.now)

pub add_legs-add_legs-requires : goal.add_legs-add_legs-requires
add_legs-add_legs-requires t c = grind (arith, some_leg_nodes (view_leg c.in-Some.first.now))

pub add-returns-in_ok-add_all-in-Many : goal.add-returns-in_ok-add_all-in-Many
add-returns-in_ok-add_all-in-Many t c =
    let at : At = record { place = c.e.inside.place; ty = c.e.inside.ty } in
    let old : List StepTree = view_steps c.args.steps.now.items in
    let between : List StepTree = view_steps c.add_all.new.steps.items in
    let new : List StepTree = view_steps c.push-in-Many.new.steps.items in
    let is : c.args.e.now ≡ many at (view_many c.in-Many.form) (pack_exprs c.in-Many.parts) = sym c.e.view_is ∙ ap (λ (f : Form). view_form f at) c.in-Many.is in
    let some : loops c.args.e.now ≢ 0 = omega arith in
    let parts : between ≡ old ++ all_steps (pack_exprs c.in-Many.parts) c.args.base = c.in_ok-add_all-in-Many.ensures ∙ ap (λ (es : List ExprTree). old ++ all_steps (pack_exprs es) c.args.base) c.as_slice-parts.ensures.value in
    on_ok (new ≡ between ++ apply_many (view_many c.in-Many.form) (length c.as_slice-parts.result.now) ∷ []) (new ≡ old ++ steps_of c.args.e.now c.args.base) c.push-in-Many.result
    (λ q. many_added at (view_many c.in-Many.form) c.in-Many.parts c.args.base c.args.e.now old between new (length c.as_slice-parts.result.now) is some (ap length c.as_slice-parts.ensures.value) parts q)
    c.push-in-Many.ensures
