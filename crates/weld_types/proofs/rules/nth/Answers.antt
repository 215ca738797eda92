use Rattle.weld_types.proofs.CodeTests.{nth_by}
use Rattle.weld_types.proofs.rules.nth.Goals as goal

pub returns : goal.returns
returns c = nth_by c.args.fields.now c.as_slice.result.now c.args.number c.get.result c.as_slice.ensures.value c.get.ensures.lookup
