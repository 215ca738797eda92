use Rattle.std.proofs.Common.{◌≡◌, drop}
use Rattle.weld_eval_forms.specs.Legs.{leg_lists, all_long}
use Rattle.weld_eval_forms.proofs.legs.are_long.Given as goal

abbrev pub invariant-loop-place : goal.invariant-loop-place
invariant-loop-place l = all_long l.count (leg_lists l.legs) ≡ all_long l.count (leg_lists (drop l.place l.legs))
