use Rattle.weld_values.proofs.Readings.{one_spelling}
use Rattle.weld_values.proofs.laws.one_spelling.Goals as goal

pub returns : goal.returns
returns c = one_spelling
