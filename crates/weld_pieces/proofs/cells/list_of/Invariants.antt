use Rattle.std.proofs.Common.{◌≡◌, Some, map, take}
use Rattle.weld_data.specs.Value.{number}
use Rattle.weld_pieces.specs.Items.{items_of_list, kind_of_items}
use Rattle.weld_pieces.specs.Word.{word}
use Rattle.weld_pieces.proofs.cells.list_of.Given as goal

abbrev pub invariant-loop-x : goal.invariant-loop-x
invariant-loop-x l = (items_of_list l.list ≡ map (number l.kind) (map (word l.kind) (take l.x-index l.words))) × (kind_of_items l.list ≡ Some l.kind)
