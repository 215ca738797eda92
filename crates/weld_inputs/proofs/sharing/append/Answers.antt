use Rattle.std.specs.Vec.Iter.{into_iter_items}
use Rattle.weld_data.specs.View.{view_val}
use Rattle.weld_inputs.proofs.Claims.{append_more}
use Rattle.weld_inputs.proofs.sharing.append.Goals as goal

pub loop-value-preserved : goal.loop-value-preserved
loop-value-preserved c =
    append_more view_val c.loop-value.all c.push.new.self _ (into_iter_items c.loop-value.value-iterator) (into_iter_items c.next.new.self) c.in-Some.value
    c.loop-value.invariant c.in-Some.ensures.steps.0 c.in-Ok.ensures.ok
