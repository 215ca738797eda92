use Rattle.weld_objects.proofs.Meanings.{means}
use Rattle.weld_objects.proofs.renaming.laws.renaming_keeps_what_is_meant.Goals as goal

pub returns : goal.returns
returns c = means
