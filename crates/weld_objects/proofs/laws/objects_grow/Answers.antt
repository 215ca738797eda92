use Rattle.weld_objects.proofs.Growing.{objects_grow}
use Rattle.weld_objects.proofs.laws.objects_grow.Goals as goal

pub returns : goal.returns
returns c = objects_grow
