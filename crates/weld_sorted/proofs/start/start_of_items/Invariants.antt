use Rattle.weld_sorted.proofs.Starting.{LeadsOn, IsBelow}
use Rattle.weld_sorted.proofs.start.start_of_items.Given as goal

abbrev pub invariant-loop-place : goal.invariant-loop-place
invariant-loop-place l = LeadsOn l.place l.start l.items × IsBelow l.place l.start
