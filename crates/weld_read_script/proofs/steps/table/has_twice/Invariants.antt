use Rattle.std.proofs.Common.{◌≡◌, length}
use Rattle.weld_read_script.specs.Steps.{has_twice}
use Rattle.weld_read_script.proofs.steps.table.has_twice.Given as goal

abbrev pub decreases-loop-name : goal.decreases-loop-name
decreases-loop-name l = length l.rest

abbrev pub invariant-loop-name : goal.invariant-loop-name
invariant-loop-name l = has_twice l.names ≡ has_twice l.rest
