use Rattle.std.proofs.Common.{◌≡◌, ◌+◌, ◌*◌}
use Rattle.weld_linear.specs.Sources.{pack_origins, origin_nodes, origins_nodes}
use Rattle.weld_handing.proofs.Noted.{typed}
use Rattle.weld_handing.proofs.noting.+noting.Given as goal

-- four times the nodes of the origin, so that a struct, its fields and each of them differ

abbrev pub decreases-hand_type : goal.decreases-hand_type
decreases-hand_type l = 4 * origin_nodes l.source.now

abbrev pub decreases-hand_fields : goal.decreases-hand_fields
decreases-hand_fields l = 4 * origins_nodes (pack_origins l.sources.now) + 3

abbrev pub decreases-hand_all : goal.decreases-hand_all
decreases-hand_all l = 4 * origins_nodes (pack_origins l.sources.now) + 2

abbrev pub decreases-hand_each : goal.decreases-hand_each
decreases-hand_each l = 4 * origins_nodes (pack_origins l.sources.now) + 1

-- those so far are noted anew

abbrev pub invariant-hand_each-loop-i : goal.invariant-hand_each-loop-i
invariant-hand_each-loop-i l = l.types ≡ typed l.ty l.i l.sources l.initial.types
