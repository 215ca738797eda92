use Rattle.std.proofs.Common.{◌≡◌, drop}
use Rattle.weld_read_script.specs.Names.{object_of}
use Rattle.weld_read_script.proofs.requests.names.object_of.Given as goal

abbrev pub invariant-loop-bound : goal.invariant-loop-bound
invariant-loop-bound l = object_of l.name l.bindings ≡ object_of l.name (drop l.bound-index l.bindings)
