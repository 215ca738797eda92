use Rattle.std.proofs.Common.{◌≡◌}
use Rattle.std.specs.List.{IsDistinct}
use Rattle.std.specs.Map.{keys_of, values_of}
use Rattle.weld_builders.specs.Part.{combined}
use Rattle.weld_builders.specs.Range.{AllInRange}
use Rattle.weld_pieces.specs.Keyed.{entries_with}
use Rattle.weld_pieces.proofs.ordered.merge_each.Given as goal

abbrev pub invariant-loop-key : goal.invariant-loop-key
invariant-loop-key g l =
    (goal.iterator-loop-key g).can_next l.key-iterator
    × (goal.iterator-loop-key g).is_finite l.key-iterator
    × (entries_with g.K.PartialEq.eq (combined l.op l.kind) l.map.entries l.key-iterator ≡ entries_with g.K.PartialEq.eq (combined l.op l.kind) l.initial.map.entries l.fn.more.entries)
    × AllInRange l.kind (values_of l.map.entries)
    × AllInRange l.kind (values_of l.key-iterator)
    × IsDistinct g.K.PartialEq.eq (keys_of l.fn.more.entries)
