use Rattle.weld_builders.proofs.Steps.{keys_stand}
use Rattle.weld_builders.proofs.laws.keys_are_ordered_alike.Goals as goal

pub returns : goal.returns
returns c = keys_stand
