use Rattle.std.proofs.Common.{◌≡◌, drop}
use Rattle.weld_meaning.specs.LinearWalk.{are_not_made}
use Rattle.weld_linear.specs.Sources.{pack_origins}
use Rattle.weld_linear.proofs.source.+not_made.Given as goal

abbrev pub invariant-Sources::are_not_made-loop-item : goal.invariant-Sources::are_not_made-loop-item
invariant-Sources::are_not_made-loop-item l = are_not_made (pack_origins l.item-items) ≡ are_not_made (pack_origins (drop l.item-index l.item-items))
