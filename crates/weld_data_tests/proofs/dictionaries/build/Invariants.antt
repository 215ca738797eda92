use Rattle.std.proofs.Common.{◌≡◌}
use Rattle.weld_data_tests.specs.Dictionaries.{small_numbers}
use Rattle.weld_data_tests.proofs.dictionaries.build.Given as goal

abbrev pub invariant-loop-k : goal.invariant-loop-k
invariant-loop-k l = l.pairs ≡ small_numbers l.k
