use Rattle.weld_builders.proofs.GroupOrder.{group_at-merge_pairs}
use Rattle.weld_builders.proofs.laws.groups_keep_the_order.Goals as goal

pub returns : goal.returns
returns c = group_at-merge_pairs
