use Rattle.std.proofs.Common.{◌≡◌, length, map}
use Rattle.weld_lazy.specs.View.{view_let}
use Rattle.weld_lazy.specs.Lowering.{chained}
use Rattle.weld_lazy.proofs.close.closed.Given as goal

abbrev pub decreases-loop-part : goal.decreases-loop-part
decreases-loop-part l = length l.parts.items

abbrev pub invariant-loop-part : goal.invariant-loop-part
invariant-loop-part l = chained (map view_let l.parts.items) l.inner.value ≡ chained (map view_let l.initial.parts.items) l.initial.inner.value
