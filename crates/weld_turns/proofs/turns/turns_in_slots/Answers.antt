use Rattle.std.proofs.Common.{◌≡◌, IfSome, ap, sym, subst, ◌∙◌}
use Rattle.weld_data.specs.View.{view_val}
use Rattle.weld_tree.specs.declared.expr.Form.{Form}
use Rattle.weld_tree.specs.ExprTree.{ExprTree, At, iterate}
use Rattle.weld_tree.specs.ExprView.{view_form}
use Rattle.weld_eval.specs.Answers.{Answers}
use Rattle.weld_eval.specs.FrameView.{env_of}
use Rattle.weld_eval.specs.ThingView.{held_of}
use Rattle.weld_eval_plain.specs.Turns.{turns_from}
use Rattle.weld_meaning.specs.Evaluation.{turn_limit}
use Rattle.weld_turns.proofs.turns.turns_in_slots.Goals as goal

pub returns-in-Iterate : goal.returns-in-Iterate
returns-in-Iterate c =
    let p : At = record { place = c.e.inside.place; ty = c.e.inside.ty } in
    let is : c.args.e.now ≡ iterate p c.in-Iterate.field-0.value c.in-Iterate.binder c.deref.result.now =
    sym c.e.view_is ∙ ap (λ (f : Form). view_form f p) c.in-Iterate.is ∙ (λ i. iterate p c.in-Iterate.field-0.value c.in-Iterate.binder (sym c.deref.ensures i)) in
    subst (λ (n : ExprTree). IfSome c.turns_of_body.result (λ r. Answers held_of r (turns_from n (env_of c.args.frame.now) turn_limit (view_val c.args.start.now)))) (sym is) c.turns_of_body.ensures
