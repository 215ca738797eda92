use Rattle.weld_builders.proofs.Structs.{merge_item-after_builder}
use Rattle.weld_builders.proofs.laws.merge_into_a_struct_join.Goals as goal

pub returns : goal.returns
returns c = merge_item-after_builder
