use Rattle.std.proofs.Common.{take}
use Rattle.weld_blocks.specs.Scope.{scope_env, AreFieldsOf}
use Rattle.weld_blocks.proofs.columns.+columns.Given as goal

abbrev pub invariant-fields_of-loop-place : goal.invariant-fields_of-loop-place
invariant-fields_of-loop-place l = AreFieldsOf (take l.place l.parts) (scope_env l.scope) l.columns.items l.count
