use Rattle.weld_meaning.proofs.OneType.{one_type}
use Rattle.weld_meaning.proofs.laws.types_are_unique.Goals as goal

pub returns : goal.returns
returns c = one_type
