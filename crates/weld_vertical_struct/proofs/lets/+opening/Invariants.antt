use Rattle.std.proofs.Common.{◌+◌, ◌*◌}
use Rattle.weld_vertical_struct.proofs.lets.+opening.Given as goal

abbrev pub decreases-open : goal.decreases-open
decreases-open l = 3 * l.depth

abbrev pub decreases-open_below : goal.decreases-open_below
decreases-open_below l = 3 * l.depth + 2

abbrev pub decreases-open_both : goal.decreases-open_both
decreases-open_both l = 3 * l.depth + 1
