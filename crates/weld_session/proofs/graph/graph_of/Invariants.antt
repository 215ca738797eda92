use Rattle.weld_session.proofs.Building.{SoFar}
use Rattle.weld_session.proofs.graph.graph_of.Given as goal

abbrev pub invariant-loop-object : goal.invariant-loop-object
invariant-loop-object l = SoFar l.fn.made l.fn.inputs l.object-index l.graph l.waiting
