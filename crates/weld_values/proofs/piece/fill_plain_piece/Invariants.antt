use Rattle.std.proofs.Common.{◌≤◌, map, length, take}
use Rattle.weld_data.specs.View.{view_val}
use Rattle.weld_values.proofs.Pieces.{Taken}
use Rattle.weld_values.proofs.piece.fill_plain_piece.Given as goal

-- the places so far have what was read
abbrev pub invariant-values : goal.invariant-values
invariant-values l = record {
  within : l.place ≤ length l.places;
  taken : Taken l.ty l.text l.rest (map view_val (take l.place l.places));
}

abbrev pub decreases-values : goal.decreases-values
decreases-values l = length l.rest
