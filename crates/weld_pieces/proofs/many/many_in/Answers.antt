use Rattle.std.proofs.Common.{zip}
use Rattle.weld_builders.specs.Part.{combined}
use Rattle.weld_pieces.proofs.ManyLemmas.{many_done}
use Rattle.weld_pieces.proofs.many.many_in.Goals as goal

pub returns-in-Ok-clause-ok : goal.returns-in-Ok-clause-ok
returns-in-Ok-clause-ok c =
    many_done (combined c.args.op c.args.kind) c.args.map.now c.in-Numbers.field-0 c.args.key_kind c.in-Numbers.entries (zip c.args.keys.now c.args.numbers.now) c.merge_keys.new.map.entries c.in-Numbers.is c.requires.kept c.in-Ok.ensures.ok
