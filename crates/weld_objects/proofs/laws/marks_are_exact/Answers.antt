use Rattle.weld_objects.proofs.ReachedLaws.{is_reached, reached_is}
use Rattle.weld_objects.proofs.laws.marks_are_exact.Goals as goal

pub returns : goal.returns
returns c = λ os shown id are. (is_reached os shown id, reached_is os shown id are)
