use Rattle.weld_tree.specs.TypeTree.{scalar}
use Rattle.weld_values.proofs.Pieces.{bracketed}
use Rattle.weld_values.proofs.laws.scalars_in_brackets_read_as_lists.Goals as goal

pub returns : goal.returns
returns c = λ k. bracketed (scalar k) tt
