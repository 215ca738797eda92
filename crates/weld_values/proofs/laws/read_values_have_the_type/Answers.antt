use Rattle.weld_values.proofs.Typed.{read_typed}
use Rattle.weld_values.proofs.laws.read_values_have_the_type.Goals as goal

pub returns : goal.returns
returns c = read_typed
