use Rattle.std.proofs.Common.{◌≡◌, replicate}
use Rattle.weld_board.proofs.dealing.zeros.Given as goal

abbrev pub invariant-loop-k : goal.invariant-loop-k
invariant-loop-k l = l.words.items ≡ replicate l._k 0
