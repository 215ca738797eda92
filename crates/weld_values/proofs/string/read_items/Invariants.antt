use Rattle.std.proofs.Common.{length}
use Rattle.weld_values.specs.Judging.{ItemsSoFar}
use Rattle.weld_values.proofs.string.read_items.Given as goal

abbrev pub invariant-items : goal.invariant-items
invariant-items l = ItemsSoFar l.text l.rest l.items

abbrev pub decreases-items : goal.decreases-items
decreases-items l = length l.rest
