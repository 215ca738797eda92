use Rattle.std.proofs.Common.{List, ap, ◌∙◌}
use Rattle.weld_tree.specs.ExprTree.{LegTree, pack_legs}
use Rattle.weld_sizes.specs.Lanes.{legs_kind}
use Rattle.weld_sizes.proofs.LaneLegs.{no_kind}
use Rattle.weld_sizes.proofs.lanes.legs_kind.Goals as goal

pub returns-in_default-2 : goal.returns-in_default-2
returns-in_default-2 c =
    no_kind c.as_slice.result.now c.in_default.len_at_least ∙ ap (λ (ls : List LegTree). legs_kind (pack_legs ls)) c.as_slice.ensures.value
