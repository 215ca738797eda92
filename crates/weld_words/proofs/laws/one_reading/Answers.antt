use Rattle.weld_words.proofs.Forms.{one_form}
use Rattle.weld_words.proofs.laws.one_reading.Goals as goal

pub returns : goal.returns
returns c = one_form
