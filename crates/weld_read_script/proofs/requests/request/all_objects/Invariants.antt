use Rattle.std.proofs.Common.{◌≡◌, drop}
use Rattle.weld_read_script.specs.Requests.{object_in}
use Rattle.weld_read_script.specs.Parts.{all_read}
use Rattle.weld_read_script.proofs.RequestsReading.{behind}
use Rattle.weld_read_script.proofs.requests.request.all_objects.Given as goal

abbrev pub invariant-loop-argument : goal.invariant-loop-argument
invariant-loop-argument l = all_read object_in l.arguments ≡ behind l.objects (all_read object_in (drop l.argument-index l.arguments))
