use Rattle.std.proofs.Common.{length}
use Rattle.weld_deeds.proofs.rows.+push_kinds.Given as goal

abbrev pub decreases-push_kinds : goal.decreases-push_kinds
decreases-push_kinds l = length l.columns.now
