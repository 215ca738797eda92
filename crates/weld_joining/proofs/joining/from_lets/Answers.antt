use Rattle.std.proofs.Common.{◌≡◌, IfOk, subst}
use Rattle.weld_joining.specs.Parts.{at_of}
use Rattle.weld_joining.proofs.Together.{pair_is}
use Rattle.weld_joining.proofs.joining.from_lets.Goals as goal

pub returns : goal.returns
returns c =
    subst (λ x. IfOk c.beside.result (λ e. e ≡ x))
    (pair_is c.in_ok-both.both (at_of c.args.outer) (at_of c.args.inner) c.args.binder c.args.other c.args.value.value c.args.after.value c.args.rest.value c.take_half-first.result c.take_half-second.result
    c.requires c.take_half-first.ensures c.take_half-second.ensures c.in_ok-both.ensures) c.beside.ensures
