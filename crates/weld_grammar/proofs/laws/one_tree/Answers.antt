use Rattle.weld_grammar.proofs.Unique.{one_tree}
use Rattle.weld_grammar.proofs.laws.one_tree.Goals as goal

pub returns : goal.returns
returns c = λ r t u h j e. one_tree r t u h j e
