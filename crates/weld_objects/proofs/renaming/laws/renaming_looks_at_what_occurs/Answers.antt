use Rattle.weld_objects.proofs.Trees.{agreeing}
use Rattle.weld_objects.proofs.renaming.laws.renaming_looks_at_what_occurs.Goals as goal

pub returns : goal.returns
returns c = agreeing
