use Rattle.std.proofs.Common.{w64}
use Rattle.std.specs.Int.{w128}
use Rattle.std.proofs.lemmas.Int.{to_z-of_z}
use Rattle.weld_builders.specs.Part.{combined}
use Rattle.weld_pieces.proofs.KeyedLemmas.{number_done}
use Rattle.weld_pieces.proofs.keyed.number_in.Goals as goal

pub returns-in-Ok-clause-ok : goal.returns-in-Ok-clause-ok
returns-in-Ok-clause-ok c =
    number_done (combined c.args.op c.args.kind) c.args.map.now c.in-Numbers.field-0 c.args.key_kind c.in-Numbers.numbers c.merge_at.new.map.entries c.args.key c.args.x
    c.in-Numbers.is c.requires.kept (to_z-of_z w64 c.args.key c.ranges.key) (to_z-of_z w128 c.args.x c.ranges.x) c.in-Ok.ensures.ok
