use Rattle.std.proofs.Common.{List, ap, ◌∙◌}
use Rattle.weld_tree.specs.ExprTree.{LegTree, pack_legs}
use Rattle.weld_sizes.specs.Lanes.{are_two}
use Rattle.weld_sizes.proofs.LaneLegs.{none_of, two_of}
use Rattle.weld_sizes.proofs.lanes.are_two.Goals as goal

pub returns-in-empty : goal.returns-in-empty
returns-in-empty c = none_of c.as_slice.result.now c.in-empty.len_below ∙ ap (λ (ls : List LegTree). are_two (pack_legs ls)) c.as_slice.ensures.value

pub returns-in_default : goal.returns-in_default
returns-in_default c = two_of c.as_slice.result.now c.in_default.len_at_least ∙ ap (λ (ls : List LegTree). are_two (pack_legs ls)) c.as_slice.ensures.value
