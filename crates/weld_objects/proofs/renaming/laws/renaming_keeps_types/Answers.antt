use Rattle.weld_objects.proofs.Types.{types_after, types_before}
use Rattle.weld_objects.proofs.renaming.laws.renaming_keeps_types.Goals as goal

pub returns : goal.returns
returns c = λ r e g later t b m. (types_before r e g later t b m, types_after r e g later t b m)
