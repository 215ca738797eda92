use Rattle.weld_spell.proofs.Fields.{fields-by-the-tree}
use Rattle.weld_spell.proofs.measures.fields_by_the_tree.Goals as goal

pub returns : goal.returns
returns c = λ tree h. fields-by-the-tree tree h
