use Rattle.std.proofs.Common.{◌∙◌}
use Rattle.weld_data.specs.View.{view_val, view_column}
use Rattle.weld_eager.proofs.Taking.{take_answers, kept_is_list, kept_column}
use Rattle.weld_eager.proofs.places.take.Goals as goal

pub column_of-column-requires : goal.column_of-column-requires
column_of-column-requires c = kept_is_list c.args.kind (view_val c.args.v.now) c.requires.elements

pub taken-requires-clause-kept : goal.taken-requires-clause-kept
taken-requires-clause-kept c = kept_column c.args.kind (view_val c.args.v.now) (view_column c.column_of-column.result.now) c.requires.elements c.column_of-column.ensures

pub returns : goal.returns
returns c =
    take_answers _ _ _ _ c.in_ok-found.found c.listed.result c.column_of-column.ensures (c.deref.ensures.value ∙ c.in_ok-wanted.ensures.value) c.in_ok-found.ensures c.listed.ensures
