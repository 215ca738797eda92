use Rattle.std.proofs.Common.{◌≡◌, take, map}
use Rattle.weld_predicate.specs.Neutral.{neutral}
use Rattle.weld_predicate.proofs.neutral.numbers_of.Given as goal

abbrev pub invariant-loop-ty : goal.invariant-loop-ty
invariant-loop-ty l = l.numbers ≡ map (neutral l.place l.op) (take l.ty-index l.types)
