use Rattle.weld_built.proofs.KeyLemmas.{none_are_keys}
use Rattle.weld_built.proofs.keyed.make_ready.Goals as goal

pub returns-then-is_empty-clause-keys : goal.returns-then-is_empty-clause-keys
returns-then-is_empty-clause-keys c = none_are_keys c.empty.result.key c.empty.result.numbers c.empty.ensures.numbers
