use Rattle.weld_spell.proofs.Counting.{spelled_numbered, spelled_distinct}
use Rattle.weld_spell.proofs.laws.binders_count_up.Goals as goal

pub returns-clause-in_order : goal.returns-clause-in_order
returns-clause-in_order c = λ ts p h. spelled_numbered ts p h

pub returns-clause-distinct : goal.returns-clause-distinct
returns-clause-distinct c = λ ts p h. spelled_distinct ts p h
