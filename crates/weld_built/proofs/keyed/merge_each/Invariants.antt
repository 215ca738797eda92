use Rattle.std.proofs.Common.{◌≡◌, drop, zip}
use Rattle.weld_data.specs.Value.{number}
use Rattle.weld_builders.specs.Part.{combined}
use Rattle.weld_pieces.specs.Keyed.{by_value, merged_from}
use Rattle.weld_built.specs.State.{AreKeys}
use Rattle.weld_built.proofs.keyed.merge_each.Given as goal

abbrev pub invariant-loop-i : goal.invariant-loop-i
invariant-loop-i l =
    (merged_from (combined l.initial.part.op l.initial.part.kind) l.initial.part.numbers (by_value (number l.key_kind) (zip l.keys l.numbers)) ≡ merged_from (combined l.initial.part.op l.initial.part.kind) l.part.numbers (by_value (number l.key_kind) (zip (drop l.i l.keys) (drop l.i l.numbers))))
    × AreKeys l.part.key l.part.numbers
    × (l.part.op ≡ l.initial.part.op)
    × (l.part.kind ≡ l.initial.part.kind)
