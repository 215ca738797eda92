use Rattle.std.proofs.Common.{◌≡◌, drop}
use Rattle.weld_read_script.specs.Parts.{name_of}
use Rattle.weld_read_script.proofs.Reading.{behind, lent_read}
use Rattle.weld_read_script.proofs.statements.parts.names_of.Given as goal

abbrev pub invariant-loop-part : goal.invariant-loop-part
invariant-loop-part l = lent_read name_of l.parts ≡ behind l.names (lent_read name_of (drop l.part-index l.parts))
