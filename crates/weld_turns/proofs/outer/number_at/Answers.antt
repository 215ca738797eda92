use Rattle.weld_turns.proofs.Outside.{number_there}
use Rattle.weld_turns.proofs.outer.number_at.Goals as goal

pub returns-then-index-len : goal.returns-then-index-len
returns-then-index-len c = number_there c.number_of.result c.args.fields.now c.args.index _ c.at.ensures c.number_of.ensures
