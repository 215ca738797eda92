use Rattle.std.proofs.Common.{subst}
use Rattle.weld_data.specs.View.{view_val}
use Rattle.weld_tree.specs.ExprTree.{started as started_form}
use Rattle.weld_tree.specs.TypeView.{view_build}
use Rattle.weld_eval.specs.Takes.{OneTakes}
use Rattle.weld_eval.specs.ThingView.{held_of}
use Rattle.weld_eval_forms.proofs.Starting.{total_number}
use Rattle.weld_eval_forms.proofs.starts.started.Goals as goal

pub total_from-requires : goal.total_from-requires
total_from-requires c =
    total_number c.in-Total.field-0.value c.in-Total.op (held_of c.args.x) (view_val c.value_of.result.now)
    (subst (λ b. OneTakes (started_form (view_build b)) (held_of c.args.x)) c.in-Total.is c.requires) c.value_of.ensures
