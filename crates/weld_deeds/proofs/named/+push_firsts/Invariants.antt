use Rattle.std.proofs.Common.{length}
use Rattle.weld_deeds.proofs.named.+push_firsts.Given as goal

abbrev pub decreases-push_firsts : goal.decreases-push_firsts
decreases-push_firsts l = length l.columns.now
