use Rattle.std.proofs.Common.{◌≡◌, take}
use Rattle.weld_script.specs.Script.{types_at}
use Rattle.weld_read_script.proofs.steps.call.types_at.Given as goal

abbrev pub invariant-loop-id : goal.invariant-loop-id
invariant-loop-id l = l.found ≡ types_at l.types (take l.id-index l.ids)
