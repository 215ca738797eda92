use Rattle.std.proofs.Common.{◌≡◌, map, ◌++◌}
use Rattle.weld_data.specs.View.{view_pair}
use Rattle.weld_pieces.specs.Keyed.{itself, shown}
use Rattle.weld_groups.specs.Groups.{lists_in, list_value}
use Rattle.weld_groups.proofs.pairs.value_pairs.Given as goal

abbrev pub invariant-loop-key : goal.invariant-loop-key
invariant-loop-key l =
    (goal.iterator-loop-key).can_next l.key-iterator
    × (goal.iterator-loop-key).is_finite l.key-iterator
    × (map view_pair l.items.items ++ shown itself list_value (lists_in l.key-iterator) ≡ shown itself list_value (lists_in l.fn.map.entries))
