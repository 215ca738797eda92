use Rattle.weld_types.proofs.CodeTests.{same_bool}
use Rattle.weld_types.proofs.tests.same.Goals as goal

pub returns : goal.returns
returns c = same_bool _ _ _ c.same.ensures
