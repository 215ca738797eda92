use Rattle.std.proofs.Common.{◌≡◌, drop}
use Rattle.weld_meaning.specs.LinearWalk.{are_seen}
use Rattle.weld_linear.specs.Sources.{pack_origins}
use Rattle.weld_linear.proofs.source.+seen.Given as goal

abbrev pub invariant-Sources::are_seen-loop-item : goal.invariant-Sources::are_seen-loop-item
invariant-Sources::are_seen-loop-item l = are_seen (pack_origins l.item-items) ≡ are_seen (pack_origins (drop l.item-index l.item-items))
