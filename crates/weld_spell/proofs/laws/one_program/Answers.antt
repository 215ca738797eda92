use Rattle.weld_spell.proofs.Trees.{one_spelled}
use Rattle.weld_spell.proofs.laws.one_program.Goals as goal

pub returns : goal.returns
returns c = λ ts p q h k. one_spelled c.one_tree.ensures ts p q h k
