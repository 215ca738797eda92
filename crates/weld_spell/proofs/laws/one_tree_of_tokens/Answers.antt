use Rattle.weld_spell.proofs.Trees.{one_over_tokens}
use Rattle.weld_spell.proofs.laws.one_tree_of_tokens.Goals as goal

pub returns : goal.returns
returns c = λ r t u h k e. one_over_tokens c.one_tree.ensures r t u h k e
