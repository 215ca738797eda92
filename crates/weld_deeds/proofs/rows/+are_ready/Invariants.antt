use Rattle.std.proofs.Common.{length}
use Rattle.weld_deeds.proofs.rows.+are_ready.Given as goal

abbrev pub decreases-are_ready : goal.decreases-are_ready
decreases-are_ready l = length l.columns.now
