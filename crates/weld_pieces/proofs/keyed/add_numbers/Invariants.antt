use Rattle.std.proofs.Common.{◌≡◌, Some}
use Rattle.std.specs.Map.{keys_of, values_of}
use Rattle.weld_data.specs.Value.{number}
use Rattle.weld_builders.specs.Part.{combined}
use Rattle.weld_builders.specs.Range.{AllInRange}
use Rattle.weld_pieces.specs.Keyed.{by_value, merged_from, CanKeep}
use Rattle.weld_pieces.proofs.keyed.add_numbers.Given as goal

abbrev pub invariant-loop-key : goal.invariant-loop-key
invariant-loop-key l =
    (goal.iterator-loop-key).can_next l.key-iterator
    × (goal.iterator-loop-key).is_finite l.key-iterator
    × (merged_from (combined l.part.op l.part.kind) l.part.numbers (by_value (number l.key_kind) l.key-iterator) ≡ merged_from (combined l.initial.part.op l.initial.part.kind) l.initial.part.numbers (by_value (number l.key_kind) l.fn.map.entries))
    × AllInRange l.key_kind (keys_of l.key-iterator)
    × CanKeep l.part.key (Some l.key_kind)
    × AllInRange l.part.kind (values_of l.key-iterator)
    × (l.part.key ≡ l.initial.part.key)
    × (l.part.op ≡ l.initial.part.op)
    × (l.part.kind ≡ l.initial.part.kind)
