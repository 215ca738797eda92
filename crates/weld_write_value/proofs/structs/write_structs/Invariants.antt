use Rattle.std.proofs.Common.{◌≡◌, ◌++◌, drop}
use Rattle.weld_write_value.specs.Showing.{led, show}
use Rattle.weld_write_value.proofs.structs.write_structs.Given as goal

-- what is written and what is still to come make the whole
abbrev pub invariant-items : goal.invariant-items
invariant-items l = l.out ++ led l.lead (show l.item) (drop l.place l.fn.items) ≡ l.fn.out ++ led 91 (show l.item) l.fn.items
