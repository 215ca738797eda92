use Rattle.std.proofs.Common.{◌∙◌, arith}
use Rattle.weld_data.specs.View.{view_val, view_column}
use Rattle.weld_pieces.specs.Items.{items_of_list, kind_of_items}
use Rattle.weld_eager.proofs.Keeping.{may_push}
use Rattle.weld_eager.proofs.Taking.{taken_more, taken_stops}
use Rattle.weld_eager.proofs.places.taken.Goals as goal

pub returns-in_default : goal.returns-in_default
returns-in_default c =
    taken_stops (view_column c.args.column.now) c.args.places.now c.loop-i.i c.len-count.result (items_of_list c.loop-i.list) c.requires.places (omega arith) c.loop-i.invariant.2 c.in_default.ensures c.loop-i.invariant.0

pub push-requires : goal.push-requires
push-requires c =
    may_push c.args.kind (kind_of_items c.loop-i.list) (view_column c.args.column.now) c.in-Some.place (view_val c.in_ok-copy_at.field-0) c.loop-i.invariant.1 c.requires.kept c.in_ok-copy_at.ensures

pub loop-i-preserved : goal.loop-i-preserved
loop-i-preserved c = (
  taken_more (view_column c.args.column.now) c.args.places.now c.loop-i.i c.in-Some.place c.len-count.result (items_of_list c.loop-i.list) (items_of_list c.push.new.self) (view_val c.in_ok-copy_at.field-0)
      c.requires.places (omega arith) c.in-Some.ensures c.in_ok-copy_at.ensures c.in_ok-push.ensures.ok c.loop-i.invariant.0,
  c.push.ensures.kind ∙ c.loop-i.invariant.1,
  c.loop-i.invariant.2,
)
