use Rattle.weld_spell.proofs.Written.{types-by-the-tree}
use Rattle.weld_spell.proofs.measures.types_by_the_tree.Goals as goal

pub returns : goal.returns
returns c = λ tree h. types-by-the-tree tree h
