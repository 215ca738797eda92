use Rattle.std.proofs.Common.{◌≡◌, map, take}
use Rattle.weld_blocks.specs.Numbers.{number_at}
use Rattle.weld_deeds.proofs.puts.struct_of_row.Given as goal

abbrev pub invariant-loop-i : goal.invariant-loop-i
invariant-loop-i l = l.fields ≡ map (λ c. number_at c l.place) (take l.i l.columns.items)
