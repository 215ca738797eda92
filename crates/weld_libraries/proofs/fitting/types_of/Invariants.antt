use Rattle.weld_libraries.proofs.Places.{SoFar}
use Rattle.weld_libraries.proofs.fitting.types_of.Given as goal

abbrev pub invariant-loop-id : goal.invariant-loop-id
invariant-loop-id l = SoFar l.graph l.ids l.types l.id-index
