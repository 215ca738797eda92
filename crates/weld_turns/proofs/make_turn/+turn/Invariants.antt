use Rattle.std.proofs.Common.{◌+◌, ◌*◌}
use Rattle.weld_tree.specs.ExprFalls.{expr_nodes}
use Rattle.weld_turns.proofs.make_turn.+turn.Given as goal

abbrev pub decreases-make_turn : goal.decreases-make_turn
decreases-make_turn l = 8 * expr_nodes l.e.now

abbrev pub decreases-boxed_turn : goal.decreases-boxed_turn
decreases-boxed_turn l = 8 * expr_nodes l.e.now + 1

abbrev pub decreases-make_fork : goal.decreases-make_fork
decreases-make_fork l = 8 * (expr_nodes l.x.now + expr_nodes l.y.now) + 2

abbrev pub decreases-make_let : goal.decreases-make_let
decreases-make_let l = 8 * expr_nodes l.body.now + 4

abbrev pub decreases-let_filled : goal.decreases-let_filled
decreases-let_filled l = 8 * expr_nodes l.body.now + 2
