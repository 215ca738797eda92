use Rattle.std.proofs.Common.{◌≡◌, drop}
use Rattle.weld_read_script.specs.Steps.{place_from}
use Rattle.weld_read_script.proofs.steps.call.place_of.Given as goal

abbrev pub invariant-loop-place : goal.invariant-loop-place
invariant-loop-place l = place_from 0 l.name l.names ≡ place_from l.place l.name (drop l.place l.names)
