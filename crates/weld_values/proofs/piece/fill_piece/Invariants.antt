use Rattle.std.proofs.Common.{◌≤◌, map, length, take}
use Rattle.weld_tree.specs.TypeTree.{scalar}
use Rattle.weld_values.proofs.Pieces.{Taken}
use Rattle.weld_values.proofs.piece.fill_piece.Given as goal

-- the places so far have what was read
abbrev pub invariant-scalars : goal.invariant-scalars
invariant-scalars g l = record {
  within : l.place ≤ length l.places;
  taken : Taken (scalar g.T.Cell.kind) l.text l.rest (map g.T.Cell.value (take l.place l.places));
}

abbrev pub decreases-scalars : goal.decreases-scalars
decreases-scalars g l = length l.rest
