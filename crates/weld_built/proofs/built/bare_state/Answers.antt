use Rattle.weld_built.proofs.KeyLemmas.{none_are_keys}
use Rattle.weld_built.proofs.built.bare_state.Goals as goal

pub returns-in-Keyed-clause-state : goal.returns-in-Keyed-clause-state
returns-in-Keyed-clause-state c = none_are_keys c.empty-empty.result.key c.empty-empty.result.numbers c.empty-empty.ensures.numbers

pub returns-in-Groups-clause-state : goal.returns-in-Groups-clause-state
returns-in-Groups-clause-state c = none_are_keys c.empty-empty-in-Groups.result.key c.empty-empty-in-Groups.result.groups c.empty-empty-in-Groups.ensures.groups
