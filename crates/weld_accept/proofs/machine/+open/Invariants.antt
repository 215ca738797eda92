use Rattle.weld_accept.proofs.Ranks.{rank}
use Rattle.weld_accept.proofs.machine.+open.Given as goal

abbrev pub decreases-open : goal.decreases-open
decreases-open l = rank l.item
