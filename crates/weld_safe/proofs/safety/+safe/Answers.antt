use Rattle.std.proofs.Common.{List, ap, ◌∙◌}
use Rattle.weld_tree.specs.ExprTree.{LegTree, pack_legs}
use Rattle.weld_safe.specs.Test.{one_leg_safe}
use Rattle.weld_safe.proofs.Decided.{zips}
use Rattle.weld_safe.proofs.safety.+safe.Goals as goal

pub one_leg_safe-returns-in_default-2 : goal.one_leg_safe-returns-in_default-2
one_leg_safe-returns-in_default-2 t c =
    zips c.as_slice.result.now c.in_default.len_at_least ∙ ap (λ (ls : List LegTree). one_leg_safe (pack_legs ls)) c.as_slice.ensures.value
