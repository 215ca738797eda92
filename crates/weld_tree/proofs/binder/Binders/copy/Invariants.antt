use Rattle.std.proofs.Common.{◌≡◌, take}
use Rattle.weld_tree.proofs.binder.Binders.copy.Given as goal

abbrev pub invariant-loop-binder : goal.invariant-loop-binder
invariant-loop-binder l = l.items.items ≡ take l.binder-index l.binder-items
