use Rattle.weld_data.specs.View.{view_column}
use Rattle.weld_eager.proofs.Columns.{is_there, number_more}
use Rattle.weld_eager.proofs.read.column_numbers.Goals as goal

pub number_at-requires-clause-number : goal.number_at-requires-clause-number
number_at-requires-clause-number c = is_there (view_column c.args.column.now) c.loop-place.place c.requires

pub loop-place-preserved : goal.loop-place-preserved
loop-place-preserved c = (
  number_more (view_column c.args.column.now) c.loop-place.place c.number_at.result.kind c.number_at.result.value c.loop-place.numbers.items c.push.new.self.items
      c.number_at.result.in_range c.in_ok-push.ensures.items c.loop-place.invariant.0 c.number_at.ensures,
  c.loop-place.invariant.1,
)
