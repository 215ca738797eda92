use Rattle.std.proofs.Common.{◌≡◌, take}
use Rattle.weld_linear.proofs.source.+copy.Given as goal

abbrev pub invariant-Sources::copy-loop-item : goal.invariant-Sources::copy-loop-item
invariant-Sources::copy-loop-item l = l.items.items ≡ take l.item-index l.item-items
