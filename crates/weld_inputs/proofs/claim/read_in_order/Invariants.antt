use Rattle.weld_inputs.proofs.Claims.{ReadSoFar}
use Rattle.weld_inputs.proofs.claim.read_in_order.Given as goal

abbrev pub invariant-loop-claim : goal.invariant-loop-claim
invariant-loop-claim g l = ReadSoFar l.fn.claims l.fn.first l.claim-index l.number l.values
