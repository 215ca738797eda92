use Rattle.weld_data.specs.View.{view_val, view_column}
use Rattle.weld_eager.proofs.Grouping.{key_column}
use Rattle.weld_eager.proofs.groups.group_list.Goals as goal

pub lists_by_keys-requires-clause-keys : goal.lists_by_keys-requires-clause-keys
lists_by_keys-requires-clause-keys c = key_column (view_val c.args.keys.now) (view_column c.column_of-column.result.now) c.requires.keys c.column_of-column.ensures
