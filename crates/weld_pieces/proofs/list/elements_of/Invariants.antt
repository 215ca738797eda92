use Rattle.std.proofs.Common.{◌≡◌, take, map, length}
use Rattle.weld_data.specs.View.{view_val, view_column}
use Rattle.weld_pieces.proofs.list.elements_of.Given as goal

abbrev pub invariant-loop-place : goal.invariant-loop-place
invariant-loop-place l =
    (map view_val l.values.items ≡ take l.place (view_column l.column))
    × (l.count ≡ length (view_column l.column))
