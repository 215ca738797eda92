use Rattle.std.proofs.Common.{◌≡◌, drop}
use Rattle.weld_eval_forms.specs.FormTakes.{all_of, all_are_values}
use Rattle.weld_eval_forms.proofs.several.all_values.Given as goal

abbrev pub invariant-loop-place : goal.invariant-loop-place
invariant-loop-place l = all_are_values (all_of l.things) ≡ all_are_values (all_of (drop l.place l.things))
