use Rattle.weld_builders.proofs.Structs.{after_builder-assoc}
use Rattle.weld_builders.proofs.laws.struct_join_is_associative.Goals as goal

pub returns : goal.returns
returns c = after_builder-assoc
