use Rattle.std.proofs.Common.{length}
use Rattle.weld_deeds.proofs.rows.+push_words.Given as goal

abbrev pub decreases-push_words : goal.decreases-push_words
decreases-push_words l = length l.columns.now
