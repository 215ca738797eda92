use Rattle.weld_types.proofs.CodeTests.{builder_bool}
use Rattle.weld_types.proofs.tests.is_builder.Goals as goal

pub returns : goal.returns
returns c = builder_bool _ _ c.is_builder.ensures
