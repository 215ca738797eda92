use Rattle.std.proofs.Common.{◌≡◌, drop}
use Rattle.weld_read_script.specs.Callees.{named_among}
use Rattle.weld_read_script.proofs.requests.callee.named_among.Given as goal

abbrev pub invariant-loop-callee : goal.invariant-loop-callee
invariant-loop-callee l = named_among l.word l.callees ≡ named_among l.word (drop l.callee-index l.callees)
