use Rattle.weld_spell.proofs.Flows.{numbers-by-the-tree}
use Rattle.weld_spell.proofs.programs.numbers_by_the_tree.Goals as goal

pub returns : goal.returns
returns c = λ tree h. numbers-by-the-tree tree h
