use Rattle.weld_lazy.proofs.Numbering.{on_ok, one_longer}
use Rattle.weld_lazy.proofs.values.Numbered.pass.Goals as goal

pub returns-then-has-clause-count : goal.returns-then-has-clause-count
returns-then-has-clause-count c = on_ok _ _ c.push.result (one_longer c.args.self.now.inputs c.push.new.self.inputs c.args.id.0) c.push.ensures.inputs
