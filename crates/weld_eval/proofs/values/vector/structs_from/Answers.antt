use Rattle.std.proofs.Common.{arith}
use Rattle.weld_data.specs.View.{view_val}
use Rattle.weld_eval.proofs.VectorLemmas.{copied_one}
use Rattle.weld_eval.proofs.values.vector.structs_from.Goals as goal

pub overflow_add-start : goal.overflow_add-start
overflow_add-start c = grind (arith, c.requires, c.loop-place-test.true, c.len-length.ensures, c.len-length.type_inv)

pub loop-place-preserved : goal.loop-place-preserved
loop-place-preserved c =
    copied_one c.args.items.now c.loop-place.part c.push.new.self c.args.start c.loop-place.place (view_val c.in_ok-copy.copy) c.loop-place.invariant
    c.in_ok-copy.ensures c.in_ok-push.ensures.ok
