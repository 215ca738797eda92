use Rattle.std.proofs.Common.{◌≡◌, ◌++◌, drop, length}
use Rattle.weld_builders.specs.Outcome.{map_out}
use Rattle.weld_builders.specs.Range.{AllInRange}
use Rattle.weld_calls.specs.Lists.{elementwise}
use Rattle.weld_eager.proofs.numbers.elementwise.Given as goal

abbrev pub invariant-loop-i : goal.invariant-loop-i
invariant-loop-i l =
    (elementwise l.op l.kind l.xs l.ys ≡ map_out (λ rest. l.zs.items ++ rest) (elementwise l.op l.kind (drop l.i l.xs) (drop l.i l.ys)))
    × AllInRange l.kind l.zs.items × (length l.xs ≡ length l.ys)
