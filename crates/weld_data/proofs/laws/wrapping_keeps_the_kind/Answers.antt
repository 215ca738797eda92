use Rattle.weld_data.proofs.Wrapping.{wrapped-in_range}
use Rattle.weld_data.proofs.laws.wrapping_keeps_the_kind.Goals as goal

pub returns : goal.returns
returns c = wrapped-in_range c.args.kind
