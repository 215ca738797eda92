use Rattle.std.proofs.Common.{rules, None, sym, subst}
use Rattle.weld_built.specs.State.{AreKeys}
use Rattle.weld_built.proofs.KeyLemmas.{none_joined, keys_as_values}
use Rattle.weld_built.proofs.keyed.append_copy.Goals as goal

pub returns-then-is_empty-clause-ok : goal.returns-then-is_empty-clause-ok
returns-then-is_empty-clause-ok c = search (rules, none_joined c.args.part.now.op c.args.part.now.kind c.args.part.now.numbers c.args.later.now.numbers)

pub append-requires-clause-later : goal.append-requires-clause-later
append-requires-clause-later c =
    subst (λ o. AreKeys o c.in_ok-more.more.numbers) (sym c.in_ok-more.ensures.key)
    (subst (AreKeys None) (sym c.in_ok-more.ensures.numbers) (keys_as_values c.args.later.now.key c.args.later.now.numbers c.requires.later))
