use Rattle.weld_types.proofs.CodeTests.{build_formed_bool}
use Rattle.weld_types.proofs.tests.is_well_formed_build.Goals as goal

pub returns : goal.returns
returns c = build_formed_bool _ _ c.is_well_formed.ensures
