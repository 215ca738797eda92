use Rattle.weld_lazy.specs.View.{view_ids}
use Rattle.weld_lazy.proofs.Additions.{FitsSoFar}
use Rattle.weld_lazy.proofs.graph.Graph.check_types.Given as goal

abbrev pub invariant-loop-place : goal.invariant-loop-place
invariant-loop-place l = FitsSoFar l.self (view_ids l.deps) l.params l.place
