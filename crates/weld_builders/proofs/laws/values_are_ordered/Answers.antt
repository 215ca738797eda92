use Rattle.weld_builders.proofs.Order.{value_cmp_total, value_cmp-IsAntisymmetric}
use Rattle.weld_builders.proofs.laws.values_are_ordered.Goals as goal

pub returns : goal.returns
returns c = record { total = value_cmp_total; exact = value_cmp-IsAntisymmetric }
