use Rattle.std.proofs.Common.{drop}
use Rattle.weld_inputs.specs.Claims.{IsOfParam}
use Rattle.weld_inputs.proofs.Owners.{ClaimedSoFar}
use Rattle.weld_inputs.proofs.arguments.arguments.claim_blocks.Given as goal

abbrev pub invariant-loop-param : goal.invariant-loop-param
invariant-loop-param l = ClaimedSoFar IsOfParam l.fn.params (drop l.param-index l.fn.params) l.fn.job.blocks l.claims.items
