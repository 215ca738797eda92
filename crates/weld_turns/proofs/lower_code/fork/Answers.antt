use Rattle.std.proofs.Common.{ap, sym, ◌∙◌}
use Rattle.weld_turns.specs.CodeView.{value}
use Rattle.weld_turns.specs.Lowering.{between}
use Rattle.weld_turns.proofs.LowerLemmas.{fork_is}
use Rattle.weld_turns.proofs.lower_code.fork.Goals as goal

pub returns-in-Work : goal.returns-in-Work
returns-in-Work c =
    fork_is c.fork_work.result c.args.yes c.args.no c.in-Work.op c.args.test.now c.deref.result.now c.deref-in-Work.result.now
    (λ f. ap (λ x. value x f) c.in-Work.is ∙ ap (λ x. between c.in-Work.op x c.in-Work.y.value f) (sym c.deref.ensures) ∙ ap (λ x. between c.in-Work.op c.deref.result.now x f) (sym c.deref-in-Work.ensures)) c.fork_work.ensures
