use Rattle.std.proofs.Common.{◌≡◌, ◌+◌, All, length}
use Rattle.weld_board.specs.Sitting.{seats_in, seats_room}
use Rattle.weld_board.specs.Work.{IsIdle}
use Rattle.weld_board.proofs.WorkersSeats.{IsFresh}
use Rattle.weld_board.proofs.workers.sharing.seat_workers.Given as goal

abbrev pub invariant-seats : goal.invariant-seats
invariant-seats g l = record {
  left : All (IsFresh l.board) (seats_in l.seats);
  idle : All (IsIdle l.board) l.workers.items;
  all : length l.workers.items + length (seats_in l.seats) ≡ length (seats_in l.fn.seats);
  room : seats_room l.seats ≡ seats_room l.fn.seats;
}

abbrev pub decreases-seats : goal.decreases-seats
decreases-seats g l = length (seats_in l.seats)
