use Rattle.weld_calls.specs.CallTypes.{AreValueTypes}
use Rattle.weld_eager.specs.Fitting.{AreOf}
use Rattle.weld_eager_tests.proofs.given.read_given.Given as goal

abbrev pub invariant-loop-ty : goal.invariant-loop-ty
invariant-loop-ty l = AreOf l.given.types l.given.values × AreValueTypes l.given.types
