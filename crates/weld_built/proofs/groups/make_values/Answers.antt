use Rattle.std.proofs.Common.{None, sym, subst}
use Rattle.weld_built.specs.State.{AreKeys}
use Rattle.weld_built.proofs.KeyLemmas.{keys_as_values}
use Rattle.weld_built.proofs.groups.make_values.Goals as goal

pub returns-in-Ok-clause-keys : goal.returns-in-Ok-clause-keys
returns-in-Ok-clause-keys c =
    subst (λ k. AreKeys k c.in-Ok.values.groups) (sym c.in-Ok.ensures.key)
    (subst (AreKeys None) (sym c.in-Ok.ensures.groups) (keys_as_values c.args.part.now.key c.args.part.now.groups c.requires.keys))
