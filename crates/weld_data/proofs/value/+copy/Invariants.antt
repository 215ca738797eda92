use Rattle.std.proofs.Common.{◌≡◌, take}
use Rattle.weld_data.proofs.value.+copy.Given as goal

abbrev pub invariant-Pairs::copy-loop-pair : goal.invariant-Pairs::copy-loop-pair
invariant-Pairs::copy-loop-pair l = l.items.items ≡ take l.pair-index l.pair-items

abbrev pub invariant-Vals::copy-loop-item : goal.invariant-Vals::copy-loop-item
invariant-Vals::copy-loop-item l = l.items.items ≡ take l.item-index l.item-items
