use Rattle.weld_turns.proofs.Outside.{sought_below}
use Rattle.weld_turns.proofs.outer.+seek.Goals as goal

pub returns-in-None-thing : goal.returns-in-None-thing
returns-in-None-thing t c = sought_below c.seek-in-None-thing.result c.args.frame.now _ _ c.args.name.0 c.in-Names.is c.in-None-thing.ensures c.seek-in-None-thing.ensures
