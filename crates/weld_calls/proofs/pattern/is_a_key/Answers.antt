use Rattle.weld_calls.proofs.Deciding.{key_decided}
use Rattle.weld_calls.proofs.pattern.is_a_key.Goals as goal

pub returns : goal.returns
returns c = key_decided c.is_key.result c.args.ty.now c.is_key.ensures
