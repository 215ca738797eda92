use Rattle.std.proofs.Common.{length}
use Rattle.weld_objects.proofs.answer_type.answer.+under_params.Given as goal

abbrev pub decreases-under_params : goal.decreases-under_params
decreases-under_params l = length l.params.now
