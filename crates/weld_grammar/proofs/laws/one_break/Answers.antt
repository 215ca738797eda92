use Rattle.weld_grammar.proofs.Broken.{derived_unbroken, breaks_once}
use Rattle.weld_grammar.proofs.laws.one_break.Goals as goal

pub returns-clause-derived : goal.returns-clause-derived
returns-clause-derived c = λ r xs n d b. derived_unbroken r xs n d b

pub returns-clause-once : goal.returns-clause-once
returns-clause-once c = λ r xs m n a b. breaks_once r xs m n a b
