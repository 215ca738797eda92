use Rattle.weld_reduce.proofs.Lifted.{over_tokens}
use Rattle.weld_reduce.proofs.laws.derivations_are_over_tokens.Goals as goal

pub returns : goal.returns
returns c = over_tokens
