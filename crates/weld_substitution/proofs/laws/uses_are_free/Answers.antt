use Rattle.weld_substitution.proofs.UsedNames.{used_or_free, kept}
use Rattle.weld_substitution.proofs.laws.uses_are_free.Goals as goal

pub returns : goal.returns
returns c = record { free = used_or_free; unused = kept }
