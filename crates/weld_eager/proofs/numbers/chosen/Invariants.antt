use Rattle.std.proofs.Common.{◌≡◌, ◌++◌, drop, length}
use Rattle.weld_builders.specs.Outcome.{map_out}
use Rattle.weld_builders.specs.Range.{AllInRange}
use Rattle.weld_calls.specs.Lists.{chosen}
use Rattle.weld_eager.proofs.numbers.chosen.Given as goal

abbrev pub invariant-loop-i : goal.invariant-loop-i
invariant-loop-i l =
    (chosen l.marks l.xs l.ys ≡ map_out (λ rest. l.zs.items ++ rest) (chosen (drop l.i l.marks) (drop l.i l.xs) (drop l.i l.ys)))
    × (length l.xs ≡ length l.ys) × (length l.marks ≡ length l.xs) × AllInRange l.fn.kind l.zs.items
