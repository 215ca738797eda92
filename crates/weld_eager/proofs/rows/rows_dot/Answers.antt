use Rattle.weld_data.specs.View.{view_val, view_column}
use Rattle.weld_tree.specs.TypeTree.{scalar, vec}
use Rattle.weld_eager.proofs.DotRows.{typed_column}
use Rattle.weld_eager.proofs.rows.rows_dot.Goals as goal

pub dots-requires-clause-rows : goal.dots-requires-clause-rows
dots-requires-clause-rows c =
    typed_column (vec (scalar c.args.kind)) (view_val c.args.m.now) (view_column c.column_of-rows.result.now) c.requires.rows c.column_of-rows.ensures
