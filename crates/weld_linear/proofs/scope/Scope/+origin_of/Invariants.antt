use Rattle.std.proofs.Common.{◌≡◌, ◌≤◌, length}
use Rattle.weld_meaning.specs.Origin.{origin_of_name}
use Rattle.weld_linear.proofs.scope.Scope.+origin_of.Given as goal

-- the name's origin is that by the names that are left
abbrev pub invariant-loop-scope : goal.invariant-loop-scope
invariant-loop-scope l = (origin_of_name l.name.0 l.self ≡ origin_of_name l.name.0 l.scope) × (length l.scope ≤ length l.self)

abbrev pub decreases-loop-scope : goal.decreases-loop-scope
decreases-loop-scope l = length l.scope
