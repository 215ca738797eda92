use Rattle.weld_builders.proofs.Joins.{after_part-assoc}
use Rattle.weld_builders.proofs.laws.join_is_associative.Goals as goal

pub returns : goal.returns
returns c = after_part-assoc
