use Rattle.std.proofs.Common.{◌≡◌, drop}
use Rattle.weld_read_script.specs.Steps.{stands_among}
use Rattle.weld_read_script.proofs.steps.table.stands_among.Given as goal

abbrev pub invariant-loop-other : goal.invariant-loop-other
invariant-loop-other l = stands_among l.name l.names ≡ stands_among l.name (drop l.other-index l.names)
