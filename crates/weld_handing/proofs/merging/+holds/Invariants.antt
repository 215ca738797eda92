use Rattle.std.proofs.Common.{◌≡◌, ◌+◌, ◌*◌, drop}
use Rattle.weld_linear.specs.Sources.{pack_origins, origin_nodes, origins_nodes}
use Rattle.weld_handing.specs.Handing.{some_hold}
use Rattle.weld_handing.proofs.merging.+holds.Given as goal

abbrev pub decreases-holds : goal.decreases-holds
decreases-holds l = 2 * origin_nodes l.source.now

abbrev pub decreases-some_hold : goal.decreases-some_hold
decreases-some_hold l = 2 * origins_nodes (pack_origins l.sources.now) + 1

-- what is left decides

abbrev pub invariant-some_hold-loop-source : goal.invariant-some_hold-loop-source
invariant-some_hold-loop-source l = some_hold (pack_origins l.source-items) ≡ some_hold (pack_origins (drop l.source-index l.source-items))
