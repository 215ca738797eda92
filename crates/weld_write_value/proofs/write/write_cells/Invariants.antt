use Rattle.std.proofs.Common.{◌≡◌, ◌++◌, map, drop}
use Rattle.weld_write_value.specs.Showing.{led, shown_scalar}
use Rattle.weld_write_value.proofs.write.write_cells.Given as goal

-- what is written and what is still to come make the whole
abbrev pub invariant-items : goal.invariant-items
invariant-items g l = l.out ++ led l.lead shown_scalar (map g.T.Cell.value (drop l.item-index l.items)) ≡ l.fn.out ++ led 91 shown_scalar (map g.T.Cell.value l.items)
