use Rattle.std.proofs.Common.{◌≡◌, ◌+◌, All, length, map}
use Rattle.weld_board.specs.Dealing.{joined}
use Rattle.weld_board.specs.Sitting.{Sits, IsEmptied, seats_in, seats_room, taken}
use Rattle.weld_board.specs.Spans.{jobs_in, AreMade}
use Rattle.weld_board.specs.Work.{HasWorked, Goes}
use Rattle.weld_board.proofs.workers.gathering.come_back.Given as goal

abbrev pub invariant-workers : goal.invariant-workers
invariant-workers g l = record {
  worked : All (HasWorked (g.T.Jobs.made l.jobs) (g.T.Jobs.faults l.jobs) l.board) l.workers.items;
  go : All Goes l.workers.items;
  sit : All (Sits l.board) (seats_in l.seats);
  emptied : All IsEmptied (seats_in l.seats);
  all : length (seats_in l.seats) + length l.workers.items ≡ length l.fn.workers.items;
  room : seats_room l.seats ≡ length l.fn.workers.items;
  made : AreMade (g.T.Jobs.made l.jobs) l.spans.items;
  jobs : jobs_in l.spans.items ≡ joined (map taken (seats_in l.seats));
}

abbrev pub decreases-workers : goal.decreases-workers
decreases-workers g l = length l.workers.items
