use Rattle.std.proofs.Common.{◌-◌, length}
use Rattle.weld_board.specs.Sitting.{taken, board_dealt}
use Rattle.weld_board.specs.Work.{Works}
use Rattle.weld_board.proofs.workers.working.work.Given as goal

abbrev pub invariant-takes : goal.invariant-takes
invariant-takes g l = Works (g.T.Jobs.made l.jobs) (g.T.Jobs.faults l.jobs) l.board l.worker

abbrev pub decreases-takes : goal.decreases-takes
decreases-takes g l = (board_dealt l.board).tiles - length (taken l.worker.seat)
