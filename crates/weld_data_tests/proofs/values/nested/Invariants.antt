use Rattle.std.proofs.Common.{◌≡◌, take, map}
use Rattle.weld_data.specs.declared.kind.Kind.TheVariants as kinds
use Rattle.weld_data.specs.Value.{number}
use Rattle.weld_data_tests.proofs.values.nested.Given as goal

abbrev pub invariant-loop-x : goal.invariant-loop-x
invariant-loop-x l = l.list ≡ map (number kinds.I8) (take l.x-index l.items)
