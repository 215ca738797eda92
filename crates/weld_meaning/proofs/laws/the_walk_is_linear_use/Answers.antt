use Rattle.weld_meaning.proofs.Walk.{linear_of_walk, walk_of_linear}
use Rattle.weld_meaning.proofs.laws.the_walk_is_linear_use.Goals as goal

pub returns : goal.returns
returns c = λ p. (linear_of_walk p, λ h. walk_of_linear p h.0 h.1)
