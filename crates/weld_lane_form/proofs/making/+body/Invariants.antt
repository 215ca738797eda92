use Rattle.std.proofs.Common.{◌+◌, ◌*◌}
use Rattle.weld_tree.specs.ExprFalls.{expr_nodes}
use Rattle.weld_lane_form.proofs.making.+body.Given as goal

abbrev pub decreases-make_body : goal.decreases-make_body
decreases-make_body l = 2 * expr_nodes l.e.now

abbrev pub decreases-make_let : goal.decreases-make_let
decreases-make_let l = 2 * (expr_nodes l.value.now + expr_nodes l.inner.now) + 1
