use Rattle.weld_types.proofs.CodeTests.{free_bool}
use Rattle.weld_types.proofs.tests.is_builder_free.Goals as goal

pub returns : goal.returns
returns c = free_bool c.is_builder_free.result c.args.ty.now c.is_builder_free.ensures
