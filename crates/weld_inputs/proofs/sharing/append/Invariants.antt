use Rattle.std.proofs.Common.{◌≡◌, ◌++◌, map}
use Rattle.std.specs.Vec.Iter.{into_iter_items}
use Rattle.weld_data.specs.View.{view_val}
use Rattle.weld_inputs.proofs.sharing.append.Given as goal

abbrev pub invariant-loop-value : goal.invariant-loop-value
invariant-loop-value l = l.all ++ map view_val (into_iter_items l.value-iterator) ≡ l.fn.values ++ l.fn.more
