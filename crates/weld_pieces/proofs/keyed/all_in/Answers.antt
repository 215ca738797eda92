use Rattle.weld_builders.specs.Part.{combined}
use Rattle.weld_pieces.proofs.KeyedLemmas.{numbers_done, values_done}
use Rattle.weld_pieces.proofs.keyed.all_in.Goals as goal

pub returns-in-Ok-clause-ok : goal.returns-in-Ok-clause-ok
returns-in-Ok-clause-ok c =
    numbers_done (combined c.args.op c.args.kind) c.args.map.now c.args.later c.in-Numbers-Numbers.field-0-0 c.in-Numbers-Numbers.field-0-1 c.in-Numbers-Numbers.numbers c.in-Numbers-Numbers.more c.merge_all.new.map.entries
    c.in-Numbers-Numbers.is-0 c.in-Numbers-Numbers.is-1 c.requires.kept c.in-Ok.ensures.ok

pub returns-in-Ok-merge_all-clause-ok : goal.returns-in-Ok-merge_all-clause-ok
returns-in-Ok-merge_all-clause-ok c =
    values_done (combined c.args.op c.args.kind) c.args.map.now c.args.later c.in-Values-Values.values c.in-Values-Values.more c.merge_all-in-Values-Values.new.map.entries
    c.in-Values-Values.is-0 c.in-Values-Values.is-1 c.in-Ok-merge_all.ensures.ok
