use Rattle.std.proofs.Common.{◌∙◌}
use Rattle.weld_linear.proofs.Fields.{nth_by}
use Rattle.weld_linear.proofs.source.Sources.nth.Goals as goal

pub returns : goal.returns
returns c = nth_by c.args.self.now c.deref.result.now c.args.number c.get.result (c.deref.ensures.value ∙ c.self.view_is) c.get.ensures.lookup
