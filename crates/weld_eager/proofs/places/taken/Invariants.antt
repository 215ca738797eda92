use Rattle.std.proofs.Common.{◌≡◌, length}
use Rattle.weld_data.specs.View.{view_column}
use Rattle.weld_pieces.specs.Items.{items_of_list, kind_of_items}
use Rattle.weld_eager.proofs.Taking.{TakenSoFar}
use Rattle.weld_eager.proofs.places.taken.Given as goal

abbrev pub invariant-loop-i : goal.invariant-loop-i
invariant-loop-i l =
    TakenSoFar (view_column l.column) l.places l.i (items_of_list l.list)
    × (kind_of_items l.list ≡ l.fn.kind)
    × (l.count ≡ length (view_column l.column))
