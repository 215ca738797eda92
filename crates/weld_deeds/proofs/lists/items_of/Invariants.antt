use Rattle.std.proofs.Common.{take}
use Rattle.weld_blocks.specs.Scope.{scope_env, AreFieldsOf}
use Rattle.weld_deeds.proofs.lists.items_of.Given as goal

abbrev pub invariant-loop-place : goal.invariant-loop-place
invariant-loop-place l = AreFieldsOf (take l.place l.parts) (scope_env l.scope) l.columns.items l.count
