use Rattle.weld_data.specs.View.{view_val, view_column}
use Rattle.weld_eager.proofs.Grouping.{counts_answer, key_column}
use Rattle.weld_eager.proofs.groups.group_count.Goals as goal

pub returns : goal.returns
returns c =
    counts_answer c.in_ok-counts.counts.kind (view_val c.args.keys.now) (view_column c.column_of-column.result.now) c.in_ok-counts.counts.numbers c.in_ok-into_pairs.field-0
    c.in_ok-counts.ensures.kind c.column_of-column.ensures c.in_ok-counts.ensures.counts c.in_ok-into_pairs.ensures

pub counts_by_keys-requires : goal.counts_by_keys-requires
counts_by_keys-requires c = key_column (view_val c.args.keys.now) (view_column c.column_of-column.result.now) c.requires c.column_of-column.ensures
