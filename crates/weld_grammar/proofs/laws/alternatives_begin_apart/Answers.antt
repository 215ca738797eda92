use Rattle.weld_grammar.proofs.Opening.{apart_rule}
use Rattle.weld_grammar.proofs.laws.alternatives_begin_apart.Goals as goal

pub returns : goal.returns
returns c = λ r x. apart_rule r x
