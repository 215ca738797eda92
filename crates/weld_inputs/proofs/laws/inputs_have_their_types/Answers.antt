use Rattle.weld_inputs.proofs.OneAnswer.{inputs_typed}
use Rattle.weld_inputs.proofs.laws.inputs_have_their_types.Goals as goal

pub returns : goal.returns
returns c = inputs_typed (record { text = c.read_values_have_the_type.ensures; table = c.tables_have_their_type.ensures; readable = c.well_formed_types_are_readable.ensures })
