use Rattle.weld_tree.specs.HasValue.{HasValue}
use Rattle.weld_meaning.proofs.Names.{same_answers}
use Rattle.weld_meaning.proofs.laws.answers_say_all.Goals as goal

pub returns : goal.returns
returns c = λ t u o p h g e. same_answers (HasValue t) (HasValue u) o p h g e
