use Rattle.std.proofs.Common.{w32}
use Rattle.std.proofs.lemmas.Int.{wrapping_add_is}
use Rattle.weld_lanes.proofs.kinds.I32Lane.sum.Goals as goal

pub returns : goal.returns
returns c = wrapping_add_is w32 c.args.self c.args.other c.ranges.self c.ranges.other
