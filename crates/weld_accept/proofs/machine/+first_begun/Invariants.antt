use Rattle.std.proofs.Common.{length}
use Rattle.weld_accept.proofs.machine.+first_begun.Given as goal

abbrev pub decreases-first_begun : goal.decreases-first_begun
decreases-first_begun l = length l.choices.now
