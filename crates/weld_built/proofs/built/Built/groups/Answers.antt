use Rattle.weld_built.proofs.KeyLemmas.{none_are_keys}
use Rattle.weld_built.proofs.built.Built.groups.Goals as goal

pub invariant_of-result : goal.invariant_of-result
invariant_of-result c = none_are_keys c.empty.result.key c.empty.result.groups c.empty.ensures.groups
