use Rattle.weld_values.proofs.Readable.{formed_readable}
use Rattle.weld_values.proofs.laws.well_formed_types_are_readable.Goals as goal

pub returns : goal.returns
returns c = formed_readable
