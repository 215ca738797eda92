use Rattle.weld_built.proofs.KeyLemmas.{none_are_keys}
use Rattle.weld_built.proofs.keyed.make_ready_for.Goals as goal

pub returns-then-not-keeps-clause-keys : goal.returns-then-not-keeps-clause-keys
returns-then-not-keeps-clause-keys c = none_are_keys c.empty.result.key c.empty.result.numbers c.empty.ensures.numbers
