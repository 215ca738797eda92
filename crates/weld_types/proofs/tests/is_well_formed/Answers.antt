use Rattle.weld_types.proofs.CodeTests.{formed_bool}
use Rattle.weld_types.proofs.tests.is_well_formed.Goals as goal

pub returns : goal.returns
returns c = formed_bool _ _ c.is_well_formed.ensures
