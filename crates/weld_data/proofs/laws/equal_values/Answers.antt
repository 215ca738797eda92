use Rattle.weld_data.proofs.Lookups.{Decides-same_value}
use Rattle.weld_data.proofs.laws.equal_values.Goals as goal

pub returns : goal.returns
returns c = Decides-same_value
