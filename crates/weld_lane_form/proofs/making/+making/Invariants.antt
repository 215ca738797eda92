use Rattle.std.proofs.Common.{◌+◌, ◌*◌}
use Rattle.weld_tree.specs.ExprFalls.{expr_nodes}
use Rattle.weld_lane_form.proofs.making.+making.Given as goal

abbrev pub decreases-make : goal.decreases-make
decreases-make l = 8 * expr_nodes l.e.now

abbrev pub decreases-make_one : goal.decreases-make_one
decreases-make_one l = 8 * expr_nodes l.part.now + 2

abbrev pub decreases-make_contrary : goal.decreases-make_contrary
decreases-make_contrary l = 8 * expr_nodes l.part.now + 1

abbrev pub decreases-make_two : goal.decreases-make_two
decreases-make_two l = 8 * (expr_nodes l.first.now + expr_nodes l.second.now) + 1

abbrev pub decreases-make_three : goal.decreases-make_three
decreases-make_three l = 8 * (expr_nodes l.test.now + expr_nodes l.then.now + expr_nodes l.otherwise.now) + 1
