use Rattle.std.proofs.Common.{◌+◌, ◌*◌}
use Rattle.weld_tree.specs.ExprFalls.{expr_nodes}
use Rattle.weld_turns.proofs.make.+make.Given as goal

abbrev pub decreases-make : goal.decreases-make
decreases-make l = 8 * expr_nodes l.e.now

abbrev pub decreases-boxed : goal.decreases-boxed
decreases-boxed l = 8 * expr_nodes l.e.now + 1

abbrev pub decreases-make_one : goal.decreases-make_one
decreases-make_one l = 8 * expr_nodes l.part.now + 2

abbrev pub decreases-make_two : goal.decreases-make_two
decreases-make_two l = 8 * (expr_nodes l.x.now + expr_nodes l.y.now) + 3

abbrev pub decreases-make_work : goal.decreases-make_work
decreases-make_work l = 8 * (expr_nodes l.x.now + expr_nodes l.y.now) + 2

abbrev pub decreases-make_both : goal.decreases-make_both
decreases-make_both l = 8 * (expr_nodes l.x.now + expr_nodes l.y.now) + 2

abbrev pub decreases-make_either : goal.decreases-make_either
decreases-make_either l = 8 * (expr_nodes l.x.now + expr_nodes l.y.now) + 2

abbrev pub decreases-make_three : goal.decreases-make_three
decreases-make_three l = 8 * (expr_nodes l.test.now + expr_nodes l.x.now + expr_nodes l.y.now) + 2
