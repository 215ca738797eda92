use Rattle.std.proofs.Common.{◌≡◌, map, ◌++◌}
use Rattle.std.specs.Map.{values_of}
use Rattle.weld_data.specs.Value.{number}
use Rattle.weld_data.specs.View.{view_pair}
use Rattle.weld_builders.specs.Range.{AllInRange}
use Rattle.weld_pieces.specs.Keyed.{itself, shown}
use Rattle.weld_pieces.proofs.pairs.value_pairs.Given as goal

abbrev pub invariant-loop-key : goal.invariant-loop-key
invariant-loop-key l =
    (goal.iterator-loop-key).can_next l.key-iterator
    × (goal.iterator-loop-key).is_finite l.key-iterator
    × (map view_pair l.items.items ++ shown itself (number l.kind) l.key-iterator ≡ shown itself (number l.kind) l.fn.map.entries)
    × AllInRange l.kind (values_of l.key-iterator)
