use Rattle.std.proofs.Common.{◌≡◌, ◌≤◌, length}
use Rattle.weld_meaning.specs.Environment.{look_for}
use Rattle.weld_types.proofs.scope.Scope.type_of.Given as goal

-- the name is found in what is left as it is in the whole
abbrev pub invariant-loop-scope : goal.invariant-loop-scope
invariant-loop-scope l = look_for l.name.0 l.self ≡ look_for l.name.0 l.scope

abbrev pub decreases-loop-scope : goal.decreases-loop-scope
decreases-loop-scope l = length l.scope
