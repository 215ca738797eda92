use Rattle.std.proofs.Common.{sym, ap, ◌∙◌}
use Rattle.weld_tree.specs.ExprTree.{whole}
use Rattle.weld_tree.specs.ExprView.{view_leg}
use Rattle.weld_eval.specs.FrameView.{env_of}
use Rattle.weld_eval.specs.ThingView.{held_of}
use Rattle.weld_eval_plain.proofs.Legs.{whole_is_vector}
use Rattle.weld_exec.proofs.gather.read.Goals as goal

pub whole-requires : goal.whole-requires
whole-requires c =
    whole_is_vector c.deref.result.now (env_of c.args.frame.now) (view_leg c.args.leg.now) (held_of c.in-Ok.v) (ap view_leg c.in-Whole.is ∙ (λ i. whole (sym c.deref.ensures i))) c.requires.fit c.in-Ok.ensures
