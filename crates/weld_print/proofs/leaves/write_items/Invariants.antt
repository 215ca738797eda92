use Rattle.std.proofs.Common.{◌≡◌, ◌++◌, drop}
use Rattle.weld_print.specs.PrintText.{items_text}
use Rattle.weld_print.proofs.leaves.write_items.Given as goal

abbrev pub invariant-items : goal.invariant-items
invariant-items l = l.out ++ items_text (drop l.byte-index l.bytes) ≡ l.fn.out ++ items_text l.bytes
