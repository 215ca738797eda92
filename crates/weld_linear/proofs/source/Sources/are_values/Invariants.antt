use Rattle.std.proofs.Common.{◌≡◌, drop}
use Rattle.weld_meaning.specs.Origin.{are_values}
use Rattle.weld_linear.specs.Sources.{pack_origins}
use Rattle.weld_linear.proofs.source.Sources.are_values.Given as goal

-- those so far are values, so that the rest decides
abbrev pub invariant-loop-item : goal.invariant-loop-item
invariant-loop-item l = are_values (pack_origins l.item-items) ≡ are_values (pack_origins (drop l.item-index l.item-items))
