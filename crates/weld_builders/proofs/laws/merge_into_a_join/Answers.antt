use Rattle.weld_builders.proofs.Joins.{merge_part-after_part}
use Rattle.weld_builders.proofs.laws.merge_into_a_join.Goals as goal

pub returns : goal.returns
returns c = merge_part-after_part
