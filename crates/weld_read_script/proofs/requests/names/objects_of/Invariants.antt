use Rattle.std.proofs.Common.{◌≡◌, drop}
use Rattle.weld_read_script.specs.Names.{object_of}
use Rattle.weld_read_script.specs.Parts.{all_read}
use Rattle.weld_read_script.proofs.RequestsReading.{behind}
use Rattle.weld_read_script.proofs.requests.names.objects_of.Given as goal

abbrev pub invariant-loop-name : goal.invariant-loop-name
invariant-loop-name l = all_read (λ name. object_of name l.bindings) l.names ≡ behind l.objects (all_read (λ name. object_of name l.bindings) (drop l.name-index l.names))
