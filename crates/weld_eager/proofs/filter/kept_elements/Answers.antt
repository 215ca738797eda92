use Rattle.std.proofs.Common.{◌≡◌, true, false, slice_index_or, ◌∙◌, arith}
use Rattle.weld_data.specs.View.{view_val, view_column}
use Rattle.weld_pieces.specs.Items.{items_of_list, kind_of_items}
use Rattle.weld_eager.proofs.Keeping.{may_push, kept_more, kept_less}
use Rattle.weld_eager.proofs.filter.kept_elements.Goals as goal

pub loop-place-preserved-then-not-marks-place : goal.loop-place-preserved-then-not-marks-place
loop-place-preserved-then-not-marks-place c =
    let unmarked : slice_index_or c.args.marks.now c.loop-place.place false ≡ false = grind (arith, c.if-not-marks-place.true) in (
      kept_less (view_column c.args.column.now) c.args.marks.now c.loop-place.place (items_of_list c.loop-place.list) (omega arith) c.requires.count unmarked c.loop-place.invariant.0,
      c.loop-place.invariant.1,
    )

pub push-requires : goal.push-requires
push-requires c =
    may_push c.args.kind (kind_of_items c.loop-place.list) (view_column c.args.column.now) c.loop-place.place (view_val c.in_ok-copy_at.field-0) c.loop-place.invariant.1 c.requires.kept c.in_ok-copy_at.ensures

pub loop-place-preserved : goal.loop-place-preserved
loop-place-preserved c =
    let marked : slice_index_or c.args.marks.now c.loop-place.place false ≡ true = grind (arith, c.if-not-marks-place.false) in (
      kept_more (view_column c.args.column.now) c.args.marks.now c.loop-place.place (items_of_list c.loop-place.list) (items_of_list c.push.new.self) (view_val c.in_ok-copy_at.field-0)
          (omega arith) marked c.in_ok-copy_at.ensures c.in_ok-push.ensures.ok c.loop-place.invariant.0,
      c.push.ensures.kind ∙ c.loop-place.invariant.1,
    )
