use Rattle.std.proofs.Common.{◌≡◌}
use Rattle.std.specs.Map.{values_of}
use Rattle.weld_builders.specs.Part.{appended}
use Rattle.weld_pieces.specs.Keyed.{by_value, merged_from, itself}
use Rattle.weld_groups.specs.Groups.{lists_in, CanKeepEach}
use Rattle.weld_groups.proofs.groups.add_values.Given as goal

abbrev pub invariant-loop-key : goal.invariant-loop-key
invariant-loop-key l =
    (goal.iterator-loop-key).can_next l.key-iterator
    × (goal.iterator-loop-key).is_finite l.key-iterator
    × (merged_from appended l.part.groups (by_value itself (lists_in l.key-iterator)) ≡ merged_from appended l.initial.part.groups (by_value itself (lists_in l.fn.map.entries)))
    × CanKeepEach l.part.items (values_of l.key-iterator)
    × (l.part.key ≡ l.initial.part.key)
    × (l.part.items ≡ l.initial.part.items)
