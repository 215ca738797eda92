use Rattle.weld_grammar.proofs.Opening.{behind_one, behind_rule, behind_optional, behind_repeated, behind_all, behind_one_of}
use Rattle.weld_grammar.proofs.laws.parts_open.Goals as goal

pub returns-clause-terminal : goal.returns-clause-terminal
returns-clause-terminal c = λ a x s. behind_one a x s

pub returns-clause-rule : goal.returns-clause-rule
returns-clause-rule c = λ r x s. behind_rule r x s

pub returns-clause-optional : goal.returns-clause-optional
returns-clause-optional c = λ r x s. behind_optional r x s

pub returns-clause-repeated : goal.returns-clause-repeated
returns-clause-repeated c = λ r x s. behind_repeated r x s

pub returns-clause-row : goal.returns-clause-row
returns-clause-row c = λ i rest x s. behind_all i rest x s

pub returns-clause-choice : goal.returns-clause-choice
returns-clause-choice c = λ choices x s. behind_one_of choices x s
