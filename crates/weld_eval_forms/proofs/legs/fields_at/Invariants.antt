use Rattle.std.proofs.Common.{◌≡◌, ◌++◌, drop}
use Rattle.weld_eval_forms.specs.Legs.{leg_lists, elements_at}
use Rattle.weld_eval_forms.proofs.legs.fields_at.Given as goal

abbrev pub invariant-loop-place : goal.invariant-loop-place
invariant-loop-place l = l.fields ++ elements_at l.number (leg_lists (drop l.place l.legs)) ≡ elements_at l.number (leg_lists l.legs)
