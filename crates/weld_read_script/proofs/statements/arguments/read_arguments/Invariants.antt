use Rattle.std.proofs.Common.{◌≡◌, drop}
use Rattle.weld_read_script.specs.Arguments.{argument_of}
use Rattle.weld_read_script.proofs.Reading.{behind, lent_read}
use Rattle.weld_read_script.proofs.statements.arguments.read_arguments.Given as goal

abbrev pub invariant-loop-part : goal.invariant-loop-part
invariant-loop-part l = lent_read argument_of l.parts ≡ behind l.arguments (lent_read argument_of (drop l.part-index l.parts))
