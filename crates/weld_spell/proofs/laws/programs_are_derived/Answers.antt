use Rattle.weld_spell.proofs.Trees.{spelled_derives, derives_spelled}
use Rattle.weld_spell.proofs.laws.programs_are_derived.Goals as goal

pub returns-clause-derived : goal.returns-clause-derived
returns-clause-derived c = λ ts p h. spelled_derives ts p h

pub returns-clause-spelled : goal.returns-clause-spelled
returns-clause-spelled c = λ ts d. derives_spelled ts d
