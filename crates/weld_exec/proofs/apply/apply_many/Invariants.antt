use Rattle.std.proofs.Common.{◌-◌}
use Rattle.weld_eval.specs.ThingView.{things_of}
use Rattle.weld_eval_forms.specs.FormTakes.{all_of}
use Rattle.weld_exec.proofs.Applying.{Gathered}
use Rattle.weld_exec.proofs.apply.apply_many.Given as goal

abbrev pub invariant-loop-place : goal.invariant-loop-place
invariant-loop-place l = Gathered l.count (things_of l.initial.stack) (all_of l.things.items) (l.count - l._place) (things_of l.stack)
