use Rattle.weld_inputs.proofs.ArgumentsOneAnswer.{arguments_typed}
use Rattle.weld_inputs.proofs.arguments.laws.arguments_have_their_types.Goals as goal

pub returns : goal.returns
returns c = arguments_typed c.read_values_have_the_type.ensures
    (record { typed = c.tables_have_their_type.ensures; cells = c.table_types_have_columns.ensures.cells; ty = c.table_types_have_columns.ensures.ty }) c.well_formed_types_are_readable.ensures
