use Rattle.std.proofs.Common.{◌≡◌, List, [], ◌++◌, All, length}
use Rattle.weld_board.specs.declared.seat.Seat.{Seat}
use Rattle.weld_board.specs.Sitting.{Sits, shares_of}
use Rattle.weld_board.proofs.closing.join_all.Given as goal

abbrev pub invariant-joins : goal.invariant-joins
invariant-joins l = record {
  table : l.place.table_id ≡ l.board.table.shared.table_id;
  sit : All (Sits l.board) l.seats.items;
  shares : (rest : List Seat) × (l.fn.seats.items ≡ l.seats.items ++ rest) × (l.place.me ≡ (shares_of rest, []));
}

abbrev pub decreases-joins : goal.decreases-joins
decreases-joins l = length l.seats.items
