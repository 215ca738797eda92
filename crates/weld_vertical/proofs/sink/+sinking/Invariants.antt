use Rattle.std.proofs.Common.{◌+◌, ◌*◌}
use Rattle.weld_tree.specs.ExprFalls.{expr_nodes}
use Rattle.weld_vertical.proofs.sink.+sinking.Given as goal

-- the measure: the nodes that are left, two for each, so that a node and its arms differ

abbrev pub decreases-sink : goal.decreases-sink
decreases-sink l = 2 * expr_nodes l.e.now

abbrev pub decreases-sink_in_arm : goal.decreases-sink_in_arm
decreases-sink_in_arm l = 2 * (expr_nodes l.first.now + expr_nodes l.second.now) + 1
