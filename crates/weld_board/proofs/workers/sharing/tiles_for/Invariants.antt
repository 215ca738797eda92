use Rattle.std.proofs.Common.{◌≡◌, length}
use Rattle.weld_board.specs.Work.{AreJobs}
use Rattle.weld_board.proofs.workers.sharing.tiles_for.Given as goal

abbrev pub invariant-loop-k : goal.invariant-loop-k
invariant-loop-k l = record { jobs : AreJobs l.tiles.items; all : length l.tiles.items ≡ l.k }
