use Rattle.std.proofs.Common.{◌≡◌, drop}
use Rattle.weld_tree.specs.TypeTree.{TypeTree}
use Rattle.weld_types.specs.Walk.{Found, param_types_fit}
use Rattle.weld_check_types.proofs.type_walk.program.check_params.Given as goal

-- those so far fit, so that the rest decides
abbrev pub invariant-loop-param : goal.invariant-loop-param
invariant-loop-param l = (later : Found TypeTree) → param_types_fit l.params later ≡ param_types_fit (drop l.param-index l.params) later
