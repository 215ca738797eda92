use Rattle.weld_tokens.proofs.OneReading.{classes-of}
use Rattle.weld_tokens.proofs.laws.classes_of_tokens.Goals as goal

pub returns : goal.returns
returns c = classes-of
