use Rattle.std.proofs.Common.{◌≡◌}
use Rattle.std.specs.Map.{values_of}
use Rattle.weld_builders.specs.Part.{appended}
use Rattle.weld_pieces.specs.Keyed.{entries_with}
use Rattle.weld_groups.specs.Groups.{lists_in, AreListsOf}
use Rattle.weld_groups.proofs.lists.append_each.Given as goal

abbrev pub invariant-loop-key : goal.invariant-loop-key
invariant-loop-key g l =
    (goal.iterator-loop-key g).can_next l.key-iterator
    × (goal.iterator-loop-key g).is_finite l.key-iterator
    × (entries_with g.K.PartialEq.eq appended (lists_in l.map.entries) (lists_in l.key-iterator) ≡ entries_with g.K.PartialEq.eq appended (lists_in l.initial.map.entries) (lists_in l.fn.more.entries))
    × AreListsOf l.kind (values_of l.map.entries)
    × AreListsOf l.kind (values_of l.key-iterator)
