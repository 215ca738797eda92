use Rattle.std.proofs.Common.{length}
use Rattle.weld_tokens.proofs.Reading.{SoFar}
use Rattle.weld_tokens.proofs.read.read_tokens.Given as goal

abbrev pub invariant-loop-rest : goal.invariant-loop-rest
invariant-loop-rest l = SoFar l.text l.tokens l.place l.rest

abbrev pub decreases-loop-rest : goal.decreases-loop-rest
decreases-loop-rest l = length l.rest
