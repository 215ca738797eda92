use Rattle.weld_data.proofs.Keys.{KeyLess_irrefl, KeyLess_trans, KeyLess_total}
use Rattle.weld_data.proofs.laws.key_order.Goals as goal

pub returns : goal.returns
returns c = record { irreflexive = KeyLess_irrefl; transitive = KeyLess_trans; total = KeyLess_total }
