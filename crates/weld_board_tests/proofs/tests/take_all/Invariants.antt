use Rattle.std.proofs.Common.{◌-◌, length}
use Rattle.weld_board.specs.Sitting.{Sits, taken, board_dealt}
use Rattle.weld_board_tests.proofs.tests.take_all.Given as goal

abbrev pub invariant-takes : goal.invariant-takes
invariant-takes l = Sits l.board l.seat

abbrev pub decreases-takes : goal.decreases-takes
decreases-takes l = (board_dealt l.board).tiles - length (taken l.seat)
