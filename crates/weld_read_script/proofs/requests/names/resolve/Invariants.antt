use Rattle.std.proofs.Common.{◌≡◌, drop}
use Rattle.weld_read_script.specs.Names.{resolved}
use Rattle.weld_read_script.specs.Parts.{all_read}
use Rattle.weld_read_script.proofs.RequestsReading.{behind}
use Rattle.weld_read_script.proofs.requests.names.resolve.Given as goal

abbrev pub invariant-loop-argument : goal.invariant-loop-argument
invariant-loop-argument l = all_read (resolved l.bindings) l.arguments ≡ behind l.list (all_read (resolved l.bindings) (drop l.argument-index l.arguments))
