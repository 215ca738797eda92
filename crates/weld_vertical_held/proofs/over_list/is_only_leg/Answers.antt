use Rattle.std.proofs.Common.{List, ap, ◌∙◌}
use Rattle.weld_tree.specs.ExprTree.{LegTree, pack_legs}
use Rattle.weld_vertical_held.specs.Rule.{is_its_only_leg}
use Rattle.weld_vertical_held.proofs.Joined.{more_legs_no}
use Rattle.weld_vertical_held.proofs.over_list.is_only_leg.Goals as goal

pub returns-in_default-2 : goal.returns-in_default-2
returns-in_default-2 c =
    more_legs_no c.args.number.0 c.args.body.now c.as_slice.result.now c.in_default.len_at_least
    ∙ ap (λ (ls : List LegTree). is_its_only_leg c.args.number.0 c.args.body.now (pack_legs ls)) c.as_slice.ensures.value
