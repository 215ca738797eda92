use Rattle.std.proofs.Common.{◌≡◌, ◌++◌, length, reverse}
use Rattle.weld_sorted.proofs.sorted.rising.Given as goal

-- those that are left stand before those that were taken, which are turned round
abbrev pub invariant-left : goal.invariant-left
invariant-left l = l.fn.entries.items ≡ l.left.items ++ reverse l.pairs

abbrev pub decreases-left : goal.decreases-left
decreases-left l = length l.left.items
