use Rattle.std.proofs.Common.{◌≡◌, ◌≤◌, length, take}
use Rattle.weld_meaning.specs.Environment.{look_for}
use Rattle.weld_eval.specs.NamesView.{env_of_list}
use Rattle.weld_eval.proofs.names.Names.thing.Given as goal

abbrev pub invariant-loop-left : goal.invariant-loop-left
invariant-loop-left l = (l.left ≤ length l.self.items.items) × (look_for l.name.0 (env_of_list l.self.items.items) ≡ look_for l.name.0 (env_of_list (take l.left l.self.items.items)))

abbrev pub decreases-loop-left : goal.decreases-loop-left
decreases-loop-left l = l.left
