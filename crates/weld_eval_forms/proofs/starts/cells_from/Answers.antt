use Rattle.weld_data.specs.View.{view_val, view_column}
use Rattle.weld_eval_forms.proofs.Starting.{a_number, cell_taken, cell_filled}
use Rattle.weld_eval_forms.proofs.starts.cells_from.Goals as goal

pub number_at-requires-clause-number : goal.number_at-requires-clause-number
number_at-requires-clause-number c = a_number c.args.kind (view_column c.args.column.now) c.loop-place.place c.requires.numbers

pub merge-requires : goal.merge-requires
merge-requires c =
    cell_taken c.args.op c.args.kind c.number_at.result.kind c.in-Some.index.kind (view_column c.args.column.now) c.loop-place.place c.in-Some.index.value c.number_at.result.value
    c.loop-place.built (view_val c.in_ok-item.item) c.requires.numbers c.number_at.ensures c.loop-place.invariant c.in_ok-item.ensures c.in-Some.ensures.0 c.in-Some.ensures.1 c.in-Some.index.in_range

pub loop-place-preserved : goal.loop-place-preserved
loop-place-preserved c =
    cell_filled c.args.op c.args.kind c.number_at.result.kind c.in-Some.index.kind (view_column c.args.column.now) c.loop-place.place c.in-Some.index.value c.number_at.result.value
    c.loop-place.built c.merge.new.self (view_val c.in_ok-item.item) c.requires.numbers c.number_at.ensures c.loop-place.invariant c.in_ok-item.ensures c.in-Some.ensures.1 c.in-Ok.ensures
