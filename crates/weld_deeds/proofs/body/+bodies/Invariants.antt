use Rattle.std.proofs.Common.{◌≤◌, length, drop}
use Rattle.weld_tree.specs.ExprTree.{pack_exprs}
use Rattle.weld_deeds.specs.Deeds.{AreDeeds}
use Rattle.weld_blocks.specs.Scope.{scope_env}
use Rattle.weld_deeds.proofs.body.+bodies.Given as goal

abbrev pub invariant-of_struct-fields : goal.invariant-of_struct-fields
invariant-of_struct-fields l = (l.left ≤ length l.parts) × AreDeeds (pack_exprs (drop l.left l.parts)) (scope_env l.scope) l.deeds l.count

abbrev pub decreases-of_struct-fields : goal.decreases-of_struct-fields
decreases-of_struct-fields l = l.left
