use Rattle.weld_objects.proofs.Origins.{origin_moves}
use Rattle.weld_objects.proofs.Refusals.{refused_alike}
use Rattle.weld_objects.proofs.renaming.laws.renaming_keeps_use_of_builders.Goals as goal

pub returns : goal.returns
returns c = record { origins = origin_moves; refusals = refused_alike }
