use Rattle.std.proofs.Common.{◌+◌, ◌*◌}
use Rattle.weld_tree.specs.ExprTree.{pack_exprs}
use Rattle.weld_tree.specs.ExprFalls.{expr_nodes, exprs_nodes}
use Rattle.weld_turns.proofs.fill.+fill.Given as goal

abbrev pub decreases-fill : goal.decreases-fill
decreases-fill l = 32 * expr_nodes l.e.now + 1

abbrev pub decreases-boxed_fill : goal.decreases-boxed_fill
decreases-boxed_fill l = 32 * expr_nodes l.e.now + 2

abbrev pub decreases-fill_fork : goal.decreases-fill_fork
decreases-fill_fork l = 32 * (expr_nodes l.x.now + expr_nodes l.y.now) + 3

abbrev pub decreases-fill_let : goal.decreases-fill_let
decreases-fill_let l = 32 * (expr_nodes l.value.now + expr_nodes l.body.now) + 5

abbrev pub decreases-fill_after : goal.decreases-fill_after
decreases-fill_after l = 32 * (expr_nodes l.value.now + expr_nodes l.body.now) + 4

abbrev pub decreases-fill_above : goal.decreases-fill_above
decreases-fill_above l = 32 * expr_nodes l.e.now + 3

abbrev pub decreases-fill_one : goal.decreases-fill_one
decreases-fill_one l = 32 * expr_nodes l.e.now

abbrev pub decreases-fill_work : goal.decreases-fill_work
decreases-fill_work l = 32 * (expr_nodes l.x.now + expr_nodes l.y.now) + 3

abbrev pub decreases-structs::fill_struct : goal.decreases-structs::fill_struct
decreases-structs::fill_struct l = 32 * expr_nodes l.e.now

abbrev pub decreases-structs::fill_written : goal.decreases-structs::fill_written
decreases-structs::fill_written l = 32 * exprs_nodes (pack_exprs l.parts.now) + 20

abbrev pub decreases-structs::fill_fields : goal.decreases-structs::fill_fields
decreases-structs::fill_fields l = 32 * exprs_nodes (pack_exprs l.parts.now) + 3 + l.left

abbrev pub decreases-structs::fill_select : goal.decreases-structs::fill_select
decreases-structs::fill_select l = 32 * (expr_nodes l.test.now + expr_nodes l.x.now + expr_nodes l.y.now) + 5

abbrev pub decreases-structs::fill_both : goal.decreases-structs::fill_both
decreases-structs::fill_both l = 32 * (expr_nodes l.x.now + expr_nodes l.y.now) + 4

abbrev pub decreases-structs::boxed_struct : goal.decreases-structs::boxed_struct
decreases-structs::boxed_struct l = 32 * expr_nodes l.e.now + 3
