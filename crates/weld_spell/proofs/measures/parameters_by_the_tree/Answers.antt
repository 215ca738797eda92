use Rattle.weld_spell.proofs.Parameters.{parameters-by-the-tree}
use Rattle.weld_spell.proofs.measures.parameters_by_the_tree.Goals as goal

pub returns : goal.returns
returns c = λ tree h. parameters-by-the-tree tree h
