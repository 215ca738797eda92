use Rattle.weld_session.proofs.Marks.{is_reached, reached_is}
use Rattle.weld_session.proofs.laws.marks_are_exact.Goals as goal

pub returns : goal.returns
returns c = λ made shown id are. (is_reached made shown id, reached_is made shown id are)
