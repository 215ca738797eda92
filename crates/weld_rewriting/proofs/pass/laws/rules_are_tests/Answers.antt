use Rattle.weld_rewriting.proofs.Tests.{tests_fall, tests_are_sound, no_test_holds}
use Rattle.weld_rewriting.proofs.pass.laws.rules_are_tests.Goals as goal

pub returns : goal.returns
returns c = record { falls = tests_fall; sound = tests_are_sound; still = no_test_holds }
