use Rattle.std.proofs.Common.{◌+◌, ◌-◌, ◌*◌, ◌++◌, length, ap, sym, ◌∙◌, arith}
use Rattle.weld_data.specs.View.{view_val, view_column}
use Rattle.weld_meaning.specs.Evaluation.{picked}
use Rattle.weld_eval.proofs.VectorLemmas.{pick_one, place_next, next_place, one_fewer}
use Rattle.weld_eval.proofs.values.vector.picked_elements.Goals as goal

pub overflow_add-place : goal.overflow_add-place
overflow_add-place c =
    let h = place_next c.loop.place (c.args.count - c.loop.counter) c.args.stride (c.args.start + c.args.count * c.args.stride) (length (view_column c.args.column.now)) c.loop.invariant.1 (omega (arith, c.loop-test.true)) c.requires.within in
    grind (arith, h, c.len-length.ensures, c.len-length.type_inv)

pub loop-preserved : goal.loop-preserved
loop-preserved c =
    let cs = view_column c.args.column.now in
    let left = c.args.count - (c.loop.counter + 1) in
    let fewer = one_fewer c.args.count c.loop.counter c.loop-test.true in (
      ap (λ l. l ++ picked cs (c.loop.place + c.args.stride) c.args.stride left) c.in_ok-push.ensures.ok
          ∙ pick_one cs c.loop.place c.args.stride left (view_val c.in_ok-copy_at.field-0) c.loop.part c.in_ok-copy_at.ensures
          ∙ ap (λ m. c.loop.part ++ picked cs c.loop.place c.args.stride m) (sym fewer)
          ∙ c.loop.invariant.0,
      next_place c.loop.place c.args.stride left (c.args.count - c.loop.counter) (c.args.start + c.args.count * c.args.stride) fewer c.loop.invariant.1,
    )
