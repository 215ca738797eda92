use Rattle.std.proofs.Common.{◌≡◌, subst, IfOk}
use Rattle.weld_linear.specs.Resolve.{resolve}
use Rattle.weld_uses.proofs.rules.nodes.named_before.Goals as goal

pub returns : goal.returns
returns c =
    subst (λ g. IfOk c.resolve.result (λ o. o ≡ resolve g c.args.answer.now))
    c.bound_by_name-inner.ensures c.resolve.ensures
