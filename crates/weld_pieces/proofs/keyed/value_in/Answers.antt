use Rattle.std.specs.Int.{w128}
use Rattle.std.proofs.lemmas.Int.{to_z-of_z}
use Rattle.weld_data.specs.View.{view_val}
use Rattle.weld_builders.specs.Part.{combined}
use Rattle.weld_pieces.proofs.KeyedLemmas.{value_done}
use Rattle.weld_pieces.proofs.keyed.value_in.Goals as goal

pub returns-in-Ok-clause-ok : goal.returns-in-Ok-clause-ok
returns-in-Ok-clause-ok c =
    value_done (combined c.args.op c.args.kind) c.args.map.now c.in-Values.values c.merge_at.new.map.entries (view_val c.args.key) c.new.result c.args.x
    c.in-Values.is c.new.ensures (to_z-of_z w128 c.args.x c.ranges.x) c.in-Ok.ensures.ok
