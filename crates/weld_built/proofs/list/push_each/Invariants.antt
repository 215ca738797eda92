use Rattle.std.proofs.Common.{◌≡◌, ◌++◌, map, take}
use Rattle.weld_data.specs.Value.{number}
use Rattle.weld_pieces.specs.Items.{items_of_list}
use Rattle.weld_built.proofs.list.push_each.Given as goal

abbrev pub invariant-loop-i : goal.invariant-loop-i
invariant-loop-i l = items_of_list l.list ≡ items_of_list l.initial.list ++ map (number l.kind) (take l.i l.items)
