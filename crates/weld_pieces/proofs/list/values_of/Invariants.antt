use Rattle.std.proofs.Common.{◌≡◌, take, map, length}
use Rattle.weld_data.specs.View.{view_val}
use Rattle.weld_pieces.proofs.list.values_of.Given as goal

abbrev pub invariant-loop-place : goal.invariant-loop-place
invariant-loop-place l =
    (map view_val l.values.items ≡ take l.place l.items)
    × (l.count ≡ length l.items)
