use Rattle.std.proofs.Common.{◌≡◌, drop, zip}
use Rattle.std.specs.Map.{values_of}
use Rattle.weld_builders.specs.Part.{combined}
use Rattle.weld_builders.specs.Range.{AllInRange}
use Rattle.weld_pieces.specs.Keyed.{entries_with}
use Rattle.weld_pieces.proofs.many.merge_keys.Given as goal

abbrev pub invariant-loop-i : goal.invariant-loop-i
invariant-loop-i g l =
    (entries_with g.K.PartialEq.eq (combined l.op l.kind) l.initial.map.entries (zip l.keys l.numbers) ≡ entries_with g.K.PartialEq.eq (combined l.op l.kind) l.map.entries (zip (drop l.i l.keys) (drop l.i l.numbers)))
    × AllInRange l.kind (values_of l.map.entries)
