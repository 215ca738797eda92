use Rattle.std.proofs.Common.{Some, ap, sym, ◌∙◌, arith}
use Rattle.weld_data.specs.View.{view_val}
use Rattle.weld_eval.proofs.VectorLemmas.{copied_one}
use Rattle.weld_eval.proofs.values.vector.values_from.Goals as goal

pub overflow_add-start : goal.overflow_add-start
overflow_add-start c = grind (arith, c.requires, c.loop-place-test.true, c.len-length.ensures, c.len-length.type_inv)

pub loop-place-preserved : goal.loop-place-preserved
loop-place-preserved c =
    copied_one c.args.items.now c.loop-place.part c.push.new.self c.args.start c.loop-place.place (view_val c.in_ok-copy.copy) c.loop-place.invariant
    (c.at.ensures ∙ ap (λ w. Some (view_val w)) (sym c.in_ok-copy.ensures)) c.in_ok-push.ensures.ok
