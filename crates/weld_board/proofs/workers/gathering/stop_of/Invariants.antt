use Rattle.std.proofs.Common.{◌≡◌, true, false, All, take}
use Rattle.weld_board.specs.Work.{Goes, HasNoFault}
use Rattle.weld_board.proofs.workers.gathering.stop_of.Given as goal

abbrev pub invariant-loop-worker : goal.invariant-loop-worker
invariant-loop-worker g l = record {
  go : l.memory ≡ false → All Goes (take l.worker-index l.workers);
  stopped : l.memory ≡ true → All Goes l.workers → ⊥;
  faultless : All HasNoFault (take l.worker-index l.workers);
}
