use Rattle.std.proofs.Common.{◌+◌, ◌*◌}
use Rattle.weld_turns.proofs.lower.+lower.Given as goal

abbrev pub decreases-lower : goal.decreases-lower
decreases-lower l = 3 * l.left.now

abbrev pub decreases-lower_turn : goal.decreases-lower_turn
decreases-lower_turn l = 3 * l.left.now + 1

abbrev pub decreases-lower_filling : goal.decreases-lower_filling
decreases-lower_filling l = 3 * l.left.now + 1

abbrev pub decreases-lower_put : goal.decreases-lower_put
decreases-lower_put l = 3 * l.left.now + 1

abbrev pub decreases-lower_test : goal.decreases-lower_test
decreases-lower_test l = 3 * l.left.now + 2

abbrev pub decreases-lower_fork : goal.decreases-lower_fork
decreases-lower_fork l = 3 * l.left.now + 1
