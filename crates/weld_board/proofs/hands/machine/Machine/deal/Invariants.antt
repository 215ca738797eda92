use Rattle.std.proofs.Common.{◌≡◌, [], replicate, false, length}
use Rattle.weld_board.specs.Dealing.{hands_below}
use Rattle.weld_board.specs.Machines.{turned, shown}
use Rattle.weld_board.proofs.hands.machine.Machine.deal.Given as goal

abbrev pub invariant-loop-k : goal.invariant-loop-k
invariant-loop-k l = record {
  hands : turned l.hands.items ≡ hands_below l.list l.workers l.k;
  taken : shown l.taken.items ≡ replicate l.k [];
  finished : l.finished.items ≡ replicate l.k false;
  all_hands : length l.hands.items ≡ l.k;
  all_taken : length l.taken.items ≡ l.k;
  all_finished : length l.finished.items ≡ l.k;
}
