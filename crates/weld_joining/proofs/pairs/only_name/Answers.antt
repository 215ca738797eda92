use Rattle.std.proofs.Common.{List, ap, ◌∙◌}
use Rattle.weld_tree.specs.ExprTree.{LegTree, pack_legs}
use Rattle.weld_joining.specs.Joining.{only_name}
use Rattle.weld_joining.proofs.Legs.{more_legs_none}
use Rattle.weld_joining.proofs.pairs.only_name.Goals as goal

pub returns-in_default-2 : goal.returns-in_default-2
returns-in_default-2 c =
    more_legs_none c.as_slice.result.now c.in_default.len_at_least ∙ ap (λ (ls : List LegTree). only_name (pack_legs ls)) c.as_slice.ensures.value
