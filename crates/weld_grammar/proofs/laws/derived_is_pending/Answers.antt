use Rattle.weld_grammar.proofs.Broken.{fronts_pending, end_pending}
use Rattle.weld_grammar.proofs.laws.derived_is_pending.Goals as goal

pub returns-clause-fronts : goal.returns-clause-fronts
returns-clause-fronts c = λ r xs ys d. fronts_pending r xs ys d

pub returns-clause-end : goal.returns-clause-end
returns-clause-end c = λ r xs d. end_pending r xs d
