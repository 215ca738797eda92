use Rattle.std.proofs.Common.{◌≡◌}
use Rattle.weld_data.specs.View.{view_column}
use Rattle.weld_pieces.specs.Items.{items_of_list, kind_of_items}
use Rattle.weld_eager.proofs.Keeping.{KeptSoFar}
use Rattle.weld_eager.proofs.filter.kept_elements.Given as goal

abbrev pub invariant-loop-place : goal.invariant-loop-place
invariant-loop-place l =
    KeptSoFar (view_column l.column) l.marks l.place (items_of_list l.list)
    × (kind_of_items l.list ≡ l.fn.kind)
