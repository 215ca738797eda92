use Rattle.std.proofs.Common.{◌≡◌, ◌*ℤ◌, map, take}
use Rattle.weld_data.specs.Wrapped.{wrapped}
use Rattle.weld_eager.proofs.numbers.scaled.Given as goal

abbrev pub invariant-loop-x : goal.invariant-loop-x
invariant-loop-x l = l.zs.items ≡ map (λ x. wrapped l.kind (x *ℤ l.s)) (take l.x-index l.xs)
