use Rattle.weld_values.proofs.Carried.{plain_join}
use Rattle.weld_values.proofs.laws.plain_values_join_at_commas.Goals as goal

pub returns : goal.returns
returns c = λ t p q vs ws f. plain_join t f p q vs ws
