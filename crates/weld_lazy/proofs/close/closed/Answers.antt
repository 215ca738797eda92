use Rattle.std.proofs.Common.{map}
use Rattle.weld_lazy.specs.View.{view_let}
use Rattle.weld_lazy.specs.Lowering.{chained}
use Rattle.weld_lazy.proofs.Chaining.{one_wrapped}
use Rattle.weld_lazy.proofs.close.closed.Goals as goal

pub loop-part-preserved : goal.loop-part-preserved
loop-part-preserved c =
    one_wrapped c.pop.new.self.items c.loop-part.parts.items c.in-Some.part c.loop-part.inner.value c.in-Ok.e.value (chained (map view_let c.into_vec-parts.result.items) c.args.body.value)
    c.in-Some.ensures.items c.in-Ok.ensures c.loop-part.invariant
