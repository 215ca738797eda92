use Rattle.std.proofs.Common.{◌≡◌, take, drop}
use Rattle.weld_eval.proofs.values.vector.structs_from.Given as goal

abbrev pub invariant-loop-place : goal.invariant-loop-place
invariant-loop-place l = l.part ≡ take l.place (drop l.start l.items)
