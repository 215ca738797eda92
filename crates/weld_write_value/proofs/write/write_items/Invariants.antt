use Rattle.std.proofs.Common.{◌≡◌, ◌++◌, map, drop}
use Rattle.weld_data.specs.Value.{number}
use Rattle.weld_data.specs.declared.kind.Kind.TheVariants.{I8}
use Rattle.weld_write_value.specs.Showing.{strung}
use Rattle.weld_write_value.proofs.write.write_items.Given as goal

abbrev pub invariant-items : goal.invariant-items
invariant-items l = l.out ++ strung (map (number I8) (drop l.item-index l.items)) ≡ l.fn.out ++ strung (map (number I8) l.items)
