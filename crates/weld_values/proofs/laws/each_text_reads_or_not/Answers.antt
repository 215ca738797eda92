use Rattle.weld_values.proofs.Deciding.{reads_or_not}
use Rattle.weld_values.proofs.laws.each_text_reads_or_not.Goals as goal

pub returns : goal.returns
returns c = reads_or_not
