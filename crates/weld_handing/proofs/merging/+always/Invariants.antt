use Rattle.std.proofs.Common.{◌+◌, ◌*◌}
use Rattle.weld_tree.specs.ExprFalls.{expr_nodes}
use Rattle.weld_handing.proofs.merging.+always.Given as goal

abbrev pub decreases-always_merges : goal.decreases-always_merges
decreases-always_merges l = 2 * expr_nodes l.e.now

abbrev pub decreases-let_always_merges : goal.decreases-let_always_merges
decreases-let_always_merges l = 2 * expr_nodes l.body.now + 1
