use Rattle.weld_built.proofs.KeyLemmas.{none_are_keys}
use Rattle.weld_built.proofs.groups.make_ready.Goals as goal

pub returns-then-is_empty-clause-keys : goal.returns-then-is_empty-clause-keys
returns-then-is_empty-clause-keys c = none_are_keys c.empty.result.key c.empty.result.groups c.empty.ensures.groups
