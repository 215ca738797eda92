-- The test of limits in code.
use Rattle.std.proofs.Common.{◌≡◌, ◌↔◌, Bool, IsTrue}
use Rattle.weld_tree.specs.TypeTree.{TypeTree}
use Rattle.weld_tree.specs.Types.{IsWithinLimits}
use Rattle.weld_types.specs.Tests.{is_within_limits}
use Rattle.weld_types.proofs.CodeTests.{limits_bool}

pub limits_are : (b : Bool) (t : TypeTree) → (IsTrue b ↔ IsWithinLimits t) → b ≡ is_within_limits t
limits_are = limits_bool
