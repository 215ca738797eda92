use Rattle.std.proofs.Common.{◌≡◌, map, ◌++◌}
use Rattle.std.specs.Map.{keys_of, values_of}
use Rattle.weld_data.specs.Value.{number}
use Rattle.weld_data.specs.View.{view_pair}
use Rattle.weld_builders.specs.Range.{AllInRange}
use Rattle.weld_pieces.specs.Keyed.{shown}
use Rattle.weld_pieces.proofs.pairs.number_pairs.Given as goal

abbrev pub invariant-loop-key : goal.invariant-loop-key
invariant-loop-key l =
    (goal.iterator-loop-key).can_next l.key-iterator
    × (goal.iterator-loop-key).is_finite l.key-iterator
    × (map view_pair l.items.items ++ shown (number l.key_kind) (number l.kind) l.key-iterator ≡ shown (number l.key_kind) (number l.kind) l.fn.map.entries)
    × AllInRange l.key_kind (keys_of l.key-iterator)
    × AllInRange l.kind (values_of l.key-iterator)
