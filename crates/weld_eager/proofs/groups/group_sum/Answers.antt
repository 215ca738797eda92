use Rattle.weld_data.specs.View.{view_val, view_column}
use Rattle.weld_eager.proofs.Grouping.{key_column}
use Rattle.weld_eager.proofs.groups.group_sum.Goals as goal

pub sums_by_keys-requires-clause-keys : goal.sums_by_keys-requires-clause-keys
sums_by_keys-requires-clause-keys c = key_column (view_val c.args.keys.now) (view_column c.column_of-column.result.now) c.requires.keys c.column_of-column.ensures
