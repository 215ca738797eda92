use Rattle.std.proofs.Common.{◌≡◌, ap, ◌∙◌}
use Rattle.weld_reduce.specs.Hiding.{newest_number}
use Rattle.weld_reduce.proofs.CodeScope.{found_number, found_borne, none_number, none_borne}
use Rattle.weld_reduce.proofs.scope.Scope.number_of.Goals as goal

pub returns-clause-some : goal.returns-clause-some
returns-clause-some c =
    let e : c.copied.result ≡ newest_number c.args.self.now c.args.bytes.now = c.copied.ensures ∙ c.get.ensures.value ∙ c.self.invariant.newest c.args.bytes.now ∙ ap (λ s. newest_number s c.args.bytes.now) c.self.view_is in
    rw e (found_number c.args.self.now c.args.bytes.now)

pub returns-clause-bound : goal.returns-clause-bound
returns-clause-bound c =
    let e : c.copied.result ≡ newest_number c.args.self.now c.args.bytes.now = c.copied.ensures ∙ c.get.ensures.value ∙ c.self.invariant.newest c.args.bytes.now ∙ ap (λ s. newest_number s c.args.bytes.now) c.self.view_is in
    rw e (found_borne c.args.self.now c.args.bytes.now)

pub returns-clause-zero : goal.returns-clause-zero
returns-clause-zero c =
    let e : c.copied.result ≡ newest_number c.args.self.now c.args.bytes.now = c.copied.ensures ∙ c.get.ensures.value ∙ c.self.invariant.newest c.args.bytes.now ∙ ap (λ s. newest_number s c.args.bytes.now) c.self.view_is in
    rw e (none_number c.args.self.now c.args.bytes.now)

pub returns-clause-unbound : goal.returns-clause-unbound
returns-clause-unbound c =
    let e : c.copied.result ≡ newest_number c.args.self.now c.args.bytes.now = c.copied.ensures ∙ c.get.ensures.value ∙ c.self.invariant.newest c.args.bytes.now ∙ ap (λ s. newest_number s c.args.bytes.now) c.self.view_is in
    rw e (none_borne c.args.self.now c.args.bytes.now)
