use Rattle.weld_read_script.proofs.Placing.{Placing}
use Rattle.weld_read_script.proofs.steps.known.Known.place.Given as goal

abbrev pub invariant-loop-object : goal.invariant-loop-object
invariant-loop-object l = Placing l.fn.self l.objects l.object-index l.self l.ids
